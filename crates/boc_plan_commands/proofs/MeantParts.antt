-- What asked cowns and edits mean, found one after the other.
use Rattle.std.proofs.Common.{◌≡◌, ◌≢◌, ◌∙◌, ℕ, zero, suc, ◌+◌, ◌<◌, ◌≤◌, Bool, true, false, cond, List, [], ◌∷◌, ◌++◌, length, map, take, drop}
use Rattle.std.proofs.Common.{get_or, append_assoc, ap, refl, sym, subst, arith}
use Rattle.std.specs.Prelude.{All, filter, flat_map, slice_get, sum, Some}
use Rattle.std.specs.List.{range_with_len}
use Rattle.std.proofs.lemmas.List.{append-nil, length-map, map-append, take_more}
use Rattle.std.proofs.lemmas.List.Elements.{All-push, filter-append}
use Rattle.std.proofs.lemmas.Grind.{flat_map-append}
use Rattle.boc_names.specs.declared.names.Names.{Names}
use Rattle.boc_words.specs.declared.asked.AskedEdit.{AskedEdit}
use Rattle.boc_plan_commands.specs.declared.meant.MeantEdits.{MeantEdits}
use Rattle.boc_plan_commands.specs.Asked.{AreMeant, IsFirstUnmeant, IsOwner, all_edits, edits_of}

-- ---- those of some numbers of which something holds

range_more : (a n : ℕ) → range_with_len a (suc n) ≡ range_with_len a n ++ (a + n) ∷ []
range_more a zero = ap (λ (k : ℕ). k ∷ []) (omega arith)
range_more a (suc n) =
    ap (λ (l : List ℕ). a ∷ l) (range_more (a + 1) n ∙ ap (λ (k : ℕ). range_with_len (a + 1) n ++ k ∷ []) (let e : (a + 1) + n ≡ a + suc n = omega arith in e))

those_more : (is : ℕ → Bool) (n : ℕ) → filter is (range_with_len 0 (n + 1)) ≡ filter is (range_with_len 0 n) ++ cond (is n) (n ∷ []) []
those_more is n =
    ap (λ (k : ℕ). filter is (range_with_len 0 k)) (let e : n + 1 ≡ suc n = omega arith in e)
    ∙ ap (filter is) (range_more 0 n ∙ ap (λ (k : ℕ). range_with_len 0 n ++ k ∷ []) (let e : 0 + n ≡ n = omega arith in e))
    ∙ filter-append is (range_with_len 0 n) (n ∷ [])

-- one more, of which it holds
pub those_with : (is : ℕ → Bool) (n : ℕ) (start now next : List ℕ) → now ≡ start ++ filter is (range_with_len 0 n) → is n ≡ true → next ≡ now ++ n ∷ []
    → next ≡ start ++ filter is (range_with_len 0 (n + 1))
those_with is n start now next before holds put =
    put ∙ ap (λ (l : List ℕ). l ++ n ∷ []) before ∙ append_assoc start (filter is (range_with_len 0 n)) (n ∷ [])
    ∙ ap (λ (l : List ℕ). start ++ l) (sym (those_more is n ∙ ap (λ (b : Bool). filter is (range_with_len 0 n) ++ cond b (n ∷ []) []) holds))

-- one more, of which it doesn't
pub those_without : (is : ℕ → Bool) (n : ℕ) (start now next : List ℕ) → now ≡ start ++ filter is (range_with_len 0 n) → is n ≡ false → next ≡ now
    → next ≡ start ++ filter is (range_with_len 0 (n + 1))
those_without is n start now next before fails same =
    same ∙ before ∙ ap (λ (l : List ℕ). start ++ l) (sym (those_more is n ∙ ap (λ (b : Bool). filter is (range_with_len 0 n) ++ cond b (n ∷ []) []) fails
    ∙ append-nil (filter is (range_with_len 0 n))))

-- the same of what is made of them
pub made_with : {A : Type 0} (f : ℕ → A) (is : ℕ → Bool) (n : ℕ) (start now next : List A) → now ≡ start ++ map f (filter is (range_with_len 0 n))
    → is n ≡ true → next ≡ now ++ f n ∷ [] → next ≡ start ++ map f (filter is (range_with_len 0 (n + 1)))
made_with {A} f is n start now next before holds put =
    put ∙ ap (λ (l : List A). l ++ f n ∷ []) before ∙ append_assoc start (map f (filter is (range_with_len 0 n))) (f n ∷ [])
    ∙ ap (λ (l : List A). start ++ l) (sym (ap (map f) (those_more is n ∙ ap (λ (b : Bool). filter is (range_with_len 0 n) ++ cond b (n ∷ []) []) holds)
    ∙ map-append f (filter is (range_with_len 0 n)) (n ∷ [])))

pub made_without : {A : Type 0} (f : ℕ → A) (is : ℕ → Bool) (n : ℕ) (start now next : List A) → now ≡ start ++ map f (filter is (range_with_len 0 n))
    → is n ≡ false → next ≡ now → next ≡ start ++ map f (filter is (range_with_len 0 (n + 1)))
made_without {A} f is n start now next before fails same =
    same ∙ before ∙ ap (λ (l : List A). start ++ l)
    (ap (map f) (sym (those_more is n ∙ ap (λ (b : Bool). filter is (range_with_len 0 n) ++ cond b (n ∷ []) []) fails
    ∙ append-nil (filter is (range_with_len 0 n)))))

-- what is made of all numbers, with one more
pub all_with : {A : Type 0} (f : ℕ → A) (n : ℕ) (now next : List A) (one : A) → now ≡ map f (range_with_len 0 n) → one ≡ f n → next ≡ now ++ one ∷ []
    → next ≡ map f (range_with_len 0 (n + 1))
all_with {A} f n now next one before is put =
    put ∙ ap (λ (l : List A). l ++ one ∷ []) before ∙ ap (λ (a : A). map f (range_with_len 0 n) ++ a ∷ []) is
    ∙ sym (ap (λ (k : ℕ). map f (range_with_len 0 k)) (let e : n + 1 ≡ suc n = omega arith in e)
    ∙ ap (map f) (range_more 0 n ∙ ap (λ (k : ℕ). range_with_len 0 n ++ k ∷ []) (let e : 0 + n ≡ n = omega arith in e))
    ∙ map-append f (range_with_len 0 n) (n ∷ []))

-- ---- what all asked ones mean, one after the other

-- one that means some is no empty list
pub some_there : {A : Type 0} (xs : List A) (n m : ℕ) → m ≡ n + length xs → m ≢ n → xs ≢ []
some_there {A} xs n m is other none = other (is ∙ ap (λ (l : List A). n + length l) none ∙ (let e : n + 0 ≡ n = omega arith in e))

-- one that adds nothing means none
pub none_there : {A : Type 0} (xs : List A) (n m : ℕ) → m ≡ n + length xs → m ≡ n → xs ≡ []
none_there [] n m is same = refl
none_there (x ∷ xs) n m is same = absurd (omega (arith, is, same))

-- the things before one, that thing, and those after it
around : {A : Type 0} (xs : List A) (i : ℕ) (d : A) → i < length xs → xs ≡ take i xs ++ (get_or xs i d ∷ drop (suc i) xs)
around [] i d h = absurd (omega (arith, h))
around (x ∷ xs) zero d h = refl
around {A} (x ∷ xs) (suc i) d h = ap (λ (l : List A). x ∷ l) (around xs i d (omega (arith, h)))

length_before : {A : Type 0} (xs : List A) (i : ℕ) → i ≤ length xs → length (take i xs) ≡ i
length_before xs zero h = refl
length_before [] (suc i) h = absurd (omega (arith, h))
length_before (x ∷ xs) (suc i) h = ap suc (length_before xs i (omega (arith, h)))

-- one more has something
pub known_next : {A : Type 0} (P : A → Type 0) (xs : List A) (i : ℕ) (one : A) → i < length xs → one ≡ get_or xs i one → All P (take i xs) → P one
    → All P (take (i + 1) xs)
known_next P xs i one h own all is = rw (take_more xs i one h) (All-push P (take i xs) (get_or xs i one) all (subst P own is))

-- what one more means comes behind what those before it mean
pub meant_next : {A B : Type 0} (meant : A → List B) (xs : List A) (i : ℕ) (one : A) (now next : List B) → i < length xs → one ≡ get_or xs i one
    → now ≡ flat_map meant (take i xs) → next ≡ now ++ meant one → next ≡ flat_map meant (take (i + 1) xs)
meant_next {A} {B} meant xs i one now next h own before put =
    put ∙ ap (λ (l : List B). l ++ meant one) before
    ∙ ap (λ (l : List B). flat_map meant (take i xs) ++ l) (ap meant own ∙ sym (append-nil (meant (get_or xs i one))))
    ∙ sym (flat_map-append meant (take i xs) (get_or xs i one ∷ [])) ∙ ap (flat_map meant) (sym (take_more xs i one h))

-- the first that means none
pub first_unmeant : {A B : Type 0} (meant : A → List B) (xs : List A) (i : ℕ) (one : A) → i < length xs → one ≡ get_or xs i one
    → All (λ a. meant a ≢ []) (take i xs) → meant one ≡ [] → IsFirstUnmeant meant xs (i + 1)
first_unmeant {A} {B} meant xs i one h own known none = record {
  before = take i xs;
  one = get_or xs i one;
  after = drop (suc i) xs;
  split = around xs i one h;
  number_is = ap (λ (n : ℕ). n + 1) (sym (length_before xs i (omega (arith, h))));
  known = known;
  unmeant = subst (λ (a : A). meant a ≡ []) own none;
}

-- ---- edits

-- as many are counted
pub counted_next : {A : Type 0} (count : A → ℕ) (xs : List A) (i : ℕ) (one : A) (now next : List ℕ) → i < length xs → one ≡ get_or xs i one
    → now ≡ map count (take i xs) → next ≡ now ++ count one ∷ [] → next ≡ map count (take (i + 1) xs)
counted_next {A} count xs i one now next h own before put =
    put ∙ ap (λ (l : List ℕ). l ++ count one ∷ []) before ∙ ap (λ (a : A). map count (take i xs) ++ count a ∷ []) own
    ∙ sym (map-append count (take i xs) (get_or xs i one ∷ [])) ∙ ap (map count) (sym (take_more xs i one h))

-- the one that stands at a place
pub one_there : {A : Type 0} (xs : List A) (i : ℕ) (one found : A) → one ≡ get_or xs i one → i < length xs → slice_get xs i ≡ Some found → found ≡ one
one_there [] i one found own h is = absurd (omega (arith, h))
one_there (x ∷ xs) zero one found own h is = cc
one_there (x ∷ xs) (suc i) one found own h is = one_there xs i one found own (omega (arith, h)) is

none_behind : {A : Type 0} (xs : List A) (i : ℕ) (found : A) → length xs ≤ i → slice_get xs i ≡ Some found → ⊥
none_behind [] i found h is = let e : slice_get [] i ≡ Some found = is in cc
none_behind (x ∷ xs) zero found h is = omega (arith, h)
none_behind (x ∷ xs) (suc i) found h is = none_behind xs i found (omega (arith, h)) is

-- all edits up to one that means none
pub are_meant : (names : Names) (asked : List AskedEdit) (i : ℕ) (meant : MeantEdits) → i ≤ length asked
    → meant.edits.items ≡ all_edits names (take i asked) → meant.counts.items ≡ map (λ a. length (edits_of names a)) (take i asked)
    → All (λ a. edits_of names a ≢ []) (take i asked) → ((one : AskedEdit) → slice_get asked i ≡ Some one → edits_of names one ≡ [])
    → AreMeant names asked meant
are_meant names asked i meant within edits counts known next =
    let many : i ≡ length meant.counts.items =
    sym (ap (length {A = ℕ}) counts ∙ length-map (take i asked) (λ (a : AskedEdit). length (edits_of names a)) ∙ length_before asked i within) in
    record {
      within = subst (λ (n : ℕ). n ≤ length asked) many within;
      edits_are = subst (λ (n : ℕ). meant.edits.items ≡ all_edits names (take n asked)) many edits;
      counts_are = subst (λ (n : ℕ). meant.counts.items ≡ map (λ a. length (edits_of names a)) (take n asked)) many counts;
      known = subst (λ (n : ℕ). All (λ a. edits_of names a ≢ []) (take n asked)) many known;
      next = subst (λ (n : ℕ). (one : AskedEdit) → slice_get asked n ≡ Some one → edits_of names one ≡ []) many next;
    }

-- all edits, of which each means some
pub all_are_meant : (names : Names) (asked : List AskedEdit) (i : ℕ) (meant : MeantEdits) → i ≤ length asked → length asked ≤ i
    → meant.edits.items ≡ all_edits names (take i asked) → meant.counts.items ≡ map (λ a. length (edits_of names a)) (take i asked)
    → All (λ a. edits_of names a ≢ []) (take i asked) → AreMeant names asked meant
all_are_meant names asked i meant within end edits counts known =
    are_meant names asked i meant within edits counts known (λ one is. absurd (none_behind asked i one end is))

-- the owner of what stands at a place
pub owner_there : (counts : List ℕ) (i place left : ℕ) → i < length counts → left + sum (take i counts) ≡ place → left < get_or counts i 0
    → IsOwner counts place (i + 1)
owner_there counts i place left h is below = record {
  before = take i counts;
  own = get_or counts i 0;
  after = drop (suc i) counts;
  split = around counts i 0 h;
  number_is = ap (λ (n : ℕ). n + 1) (sym (length_before counts i (omega (arith, h))));
  from = omega (arith, is);
  to = omega (arith, is, below);
}
