-- What is said of edits that are made all at once, of the asked ones that they are of.
use Rattle.std.proofs.Common.{◌≡◌, ◌≢◌, ◌∙◌, ℕ, zero, suc, ◌+◌, ◌-◌, ◌<◌, ◌≤◌, List, [], ◌∷◌, ◌++◌, length, map, take, take_all, drop}
use Rattle.std.proofs.Common.{append_assoc, ap, refl, sym, subst, arith}
use Rattle.std.specs.Prelude.{All, slice_get, sum, Some}
use Rattle.std.proofs.lemmas.List.{length-append}
use Rattle.std.proofs.lemmas.List.Sums.{sum_by-cons}
use Rattle.boc_runs.specs.declared.rows.Row.{Row}
use Rattle.boc_plans.specs.declared.edit.Edit.{Edit}
use Rattle.boc_plans.specs.declared.edit.EditFault.{EditFault}
use Rattle.boc_plans.specs.Edits.{AreEdited, IsFirstUnfit}
use Rattle.boc_names.specs.declared.names.Names.{Names}
use Rattle.boc_words.specs.declared.asked.AskedEdit.{AskedEdit}
use Rattle.boc_plan_commands.specs.declared.meant.MeantEdits.{MeantEdits}
use Rattle.boc_plan_commands.specs.Asked.{AreAskedFor, AreMeant, IsFirstOfNone, IsFirstUnfitAsked, IsOwner, all_edits, edits_of}

-- ---- lists

-- one that stands in a joined list stands in its first part
in_first : {A : Type 0} (xs ys fore : List A) (x : A) (back : List A) → xs ++ ys ≡ fore ++ (x ∷ back) → length fore < length xs
    → (mid : List A) × (xs ≡ fore ++ (x ∷ mid))
in_first [] ys fore x back is h = absurd (omega (arith, h))
in_first {A} (a ∷ xs) ys [] x back is h = let e : a ≡ x = cc in (xs, ap (λ (b : A). b ∷ xs) e)
in_first {A} (a ∷ xs) ys (f ∷ fore) x back is h =
    let e : a ≡ f = cc in
    let rest : xs ++ ys ≡ fore ++ (x ∷ back) = cc in
    let found = in_first xs ys fore x back rest (omega (arith, h)) in
    (found.0, ap (λ (b : A). b ∷ xs) e ∙ ap (λ (l : List A). f ∷ l) found.1)

-- or in its second
in_second : {A : Type 0} (xs ys fore : List A) (x : A) (back : List A) → xs ++ ys ≡ fore ++ (x ∷ back) → length xs ≤ length fore
    → (mid : List A) × (fore ≡ xs ++ mid) × (ys ≡ mid ++ (x ∷ back))
in_second [] ys fore x back is h = (fore, refl, is)
in_second (a ∷ xs) ys [] x back is h = absurd (omega (arith, h))
in_second {A} (a ∷ xs) ys (f ∷ fore) x back is h =
    let e : f ≡ a = cc in
    let rest : xs ++ ys ≡ fore ++ (x ∷ back) = cc in
    let found = in_second xs ys fore x back rest (omega (arith, h)) in
    (found.0, ap (λ (b : A). b ∷ fore) e ∙ ap (λ (l : List A). a ∷ l) found.1, found.2)

front_back : {A : Type 0} (xs : List A) (n : ℕ) → xs ≡ take n xs ++ drop n xs
front_back xs zero = refl
front_back [] (suc n) = refl
front_back {A} (x ∷ xs) (suc n) = ap (λ (l : List A). x ∷ l) (front_back xs n)

-- what stands at a place that is there
one_at : {A : Type 0} (xs : List A) (n : ℕ) → n < length xs → (one : A) × (slice_get xs n ≡ Some one) × (xs ≡ take n xs ++ (one ∷ drop (suc n) xs))
one_at [] n h = absurd (omega (arith, h))
one_at (x ∷ xs) zero h = (x, refl, refl)
one_at {A} (x ∷ xs) (suc n) h = let rest = one_at xs n (omega (arith, h)) in (rest.0, rest.1, ap (λ (l : List A). x ∷ l) rest.2)

length_front : {A : Type 0} (xs : List A) (n : ℕ) → n ≤ length xs → length (take n xs) ≡ n
length_front xs zero h = refl
length_front [] (suc n) h = absurd (omega (arith, h))
length_front (x ∷ xs) (suc n) h = ap suc (length_front xs n (omega (arith, h)))

-- what holds of all holds of the first of them
all_front : {A : Type 0} (P : A → Type 0) (xs ys : List A) → All P (xs ++ ys) → All P xs
all_front P [] ys all k d h = absurd (omega (arith, h))
all_front P (x ∷ xs) ys all zero d h = all zero d (omega arith)
all_front {A} P (x ∷ xs) ys all (suc k) d h = all_front P xs ys (λ i e l. all (suc i) e (omega (arith, l))) k d (omega (arith, h))

-- ---- owners

-- how many edits one means that is asked for
abbrev count : Names → AskedEdit → ℕ
count names a = length (edits_of names a)

counted : (names : Names) (asked : List AskedEdit) → sum (map (count names) asked) ≡ length (all_edits names asked)
counted names [] = refl
counted names (a ∷ asked) =
    let one : sum (map (count names) (a ∷ asked)) ≡ count names a + sum (map (count names) asked) =
    sum_by-cons (λ (n : ℕ). n) (count names a) (map (count names) asked) in
    let all : all_edits names (a ∷ asked) ≡ edits_of names a ++ all_edits names asked = refl in
    omega (arith, one, ap (length {A = Edit}) all, counted names asked, length-append (edits_of names a) (all_edits names asked))

-- an edit is of one of the asked edits, behind those of which others are
record IsOwned (names : Names) (asked : List AskedEdit) (fore : List Edit) (edit : Edit) (place : ℕ) : Type 0 where
  before : List AskedEdit
  one : AskedEdit
  after : List AskedEdit
  split : asked ≡ before ++ (one ∷ after)
  place_is : length before ≡ place
  front : List Edit
  back : List Edit
  own : edits_of names one ≡ front ++ (edit ∷ back)
  fore_is : fore ≡ all_edits names before ++ front

-- one more asked edit in front
behind_owned : (names : Names) (a : AskedEdit) (asked : List AskedEdit) (fore mid : List Edit) (edit : Edit) (place : ℕ) → fore ≡ edits_of names a ++ mid
    → IsOwned names asked mid edit place → IsOwned names (a ∷ asked) fore edit (suc place)
behind_owned names a asked fore mid edit place is rest = record {
  before = a ∷ rest.before;
  one = rest.one;
  after = rest.after;
  split = ap (λ (l : List AskedEdit). a ∷ l) rest.split;
  place_is = ap suc rest.place_is;
  front = rest.front;
  back = rest.back;
  own = rest.own;
  fore_is = is ∙ ap (λ (l : List Edit). edits_of names a ++ l) rest.fore_is
      ∙ sym (append_assoc (edits_of names a) (all_edits names rest.before) rest.front);
}

owned : (names : Names) (asked : List AskedEdit) (fore : List Edit) (edit : Edit) (back : List Edit) (before : List ℕ) (own : ℕ) (after : List ℕ)
    → all_edits names asked ≡ fore ++ (edit ∷ back) → map (count names) asked ≡ before ++ (own ∷ after) → sum before ≤ length fore
    → length fore < sum before + own → IsOwned names asked fore edit (length before)
owned names [] fore edit back [] own after is counts from to = let e : [] ≡ own ∷ after = counts in absurd (omega (arith, ap (length {A = ℕ}) e))
owned names [] fore edit back (b ∷ before) own after is counts from to =
    let e : [] ≡ b ∷ (before ++ (own ∷ after)) = counts in absurd (omega (arith, ap (length {A = ℕ}) e))
owned names (a ∷ asked) fore edit back [] own after is counts from to =
    let here : count names a ≡ own = cc in
    let found = in_first (edits_of names a) (all_edits names asked) fore edit back is (omega (arith, here, to)) in
    record {
      before = [];
      one = a;
      after = asked;
      split = refl;
      place_is = refl;
      front = fore;
      back = found.0;
      own = found.1;
      fore_is = refl;
    }
owned names (a ∷ asked) fore edit back (b ∷ before) own after is counts from to =
    let here : count names a ≡ b = cc in
    let sums : sum (b ∷ before) ≡ b + sum before = sum_by-cons (λ (n : ℕ). n) b before in
    let others : map (count names) asked ≡ before ++ (own ∷ after) = cc in
    let behind = in_second (edits_of names a) (all_edits names asked) fore edit back is (omega (arith, here, sums, from)) in
    let long : length fore ≡ count names a + length behind.0 = ap (length {A = Edit}) behind.1 ∙ length-append (edits_of names a) behind.0 in
    behind_owned names a asked fore behind.0 edit (length before) behind.1
    (owned names asked behind.0 edit back before own after behind.2 others (omega (arith, long, here, sums, from)) (omega (arith, long, here, sums, to)))

-- ---- faults

-- the place of an edit that doesn't fit is one of theirs
pub place_owned : (names : Names) (rows : List Row) (asked : List AskedEdit) (meant : MeantEdits) (edits : List Edit) (counts : List ℕ) (number : ℕ)
    (fault : EditFault) → AreMeant names asked meant → edits ≡ meant.edits.items → counts ≡ meant.counts.items → IsFirstUnfit rows edits number fault
    → number - 1 < sum counts
place_owned names rows asked meant edits counts number fault are same as_many unfit =
    let known : List AskedEdit = take (length meant.counts.items) asked in
    let all : sum counts ≡ length edits =
    ap sum (as_many ∙ are.counts_are) ∙ counted names known ∙ ap (length {A = Edit}) (sym (same ∙ are.edits_are)) in
    let some = ap (length {A = Edit}) unfit.split ∙ length-append unfit.before (unfit.edit ∷ unfit.after) in
    omega (arith, all, some, unfit.number_is)

-- what is said of the asked edits up to one is said of all
told_asked : (names : Names) (rows : List Row) (asked : List AskedEdit) (n number owner place : ℕ) (edits : List Edit) (fault : EditFault)
    (unfit : IsFirstUnfit rows edits number fault) → IsOwned names (take n asked) unfit.before unfit.edit place → owner ≡ place + 1
    → All (λ a. edits_of names a ≢ []) (take n asked) → IsFirstUnfitAsked names rows asked owner fault
told_asked names rows asked n number owner place edits fault unfit found is known = record {
  before = found.before;
  one = found.one;
  after = found.after ++ drop n asked;
  split = front_back asked n ∙ ap (λ (l : List AskedEdit). l ++ drop n asked) found.split
      ∙ append_assoc found.before (found.one ∷ found.after) (drop n asked);
  number_is = is ∙ ap (λ (k : ℕ). k + 1) (sym found.place_is);
  known = all_front (λ a. edits_of names a ≢ []) found.before (found.one ∷ found.after) (subst (All (λ a. edits_of names a ≢ [])) found.split known);
  front = found.front;
  edit = unfit.edit;
  back = found.back;
  own = found.own;
  made = unfit.made;
  edited = subst (λ (l : List Edit). AreEdited rows l unfit.made) found.fore_is unfit.edited;
  wrong = unfit.wrong;
}

-- the first edit that doesn't fit is told of the asked one that it is of
pub unfit_asked : (names : Names) (rows : List Row) (asked : List AskedEdit) (meant : MeantEdits) (edits : List Edit) (counts : List ℕ)
    (number owner : ℕ) (fault : EditFault) → AreMeant names asked meant → edits ≡ meant.edits.items → counts ≡ meant.counts.items
    → IsFirstUnfit rows edits number fault → IsOwner counts (number - 1) owner → IsFirstUnfitAsked names rows asked owner fault
unfit_asked names rows asked meant edits counts number owner fault are same as_many unfit is =
    let place : number - 1 ≡ length unfit.before = omega (arith, unfit.number_is) in
    told_asked names rows asked (length meant.counts.items) number owner (length is.before) edits fault unfit
    (owned names (take (length meant.counts.items) asked) unfit.before unfit.edit unfit.after is.before is.own is.after
    (sym (same ∙ are.edits_are) ∙ unfit.split) (sym (as_many ∙ are.counts_are) ∙ is.split) (omega (arith, place, is.from)) (omega (arith, place, is.to)))
    is.number_is are.known

-- the first that means none, where all before it fit
pub first_of_none : (names : Names) (rows : List Row) (asked : List AskedEdit) (meant : MeantEdits) (edits : List Edit) (many : ℕ) (made : List Row)
    → AreMeant names asked meant → edits ≡ meant.edits.items → many ≡ length meant.counts.items → many < length asked → AreEdited rows edits made
    → IsFirstOfNone names rows asked (many + 1)
first_of_none names rows asked meant edits many made are same as_many less done =
    let n : ℕ = length meant.counts.items in
    let here = one_at asked n (omega (arith, less, as_many)) in
    record {
      first = record {
        before = take n asked;
        one = here.0;
        after = drop (suc n) asked;
        split = here.2;
        number_is = ap (λ (k : ℕ). k + 1) (as_many ∙ sym (length_front asked n are.within));
        known = are.known;
        unmeant = are.next here.0 here.1;
      };
      made = made;
      edited = subst (λ (l : List Edit). AreEdited rows l made) (same ∙ are.edits_are) done;
    }

-- all of them were made
pub all_asked : (names : Names) (rows : List Row) (asked : List AskedEdit) (meant : MeantEdits) (edits : List Edit) (many : ℕ) (made : List Row)
    → AreMeant names asked meant → edits ≡ meant.edits.items → many ≡ length meant.counts.items → length asked ≤ many → AreEdited rows edits made
    → AreAskedFor names rows asked made
all_asked names rows asked meant edits many made are same as_many all done =
    let whole : take (length meant.counts.items) asked ≡ asked = take_all (length meant.counts.items) asked (omega (arith, all, as_many)) in
    record {
      known = subst (All (λ a. edits_of names a ≢ [])) whole are.known;
      edited = subst (λ (l : List Edit). AreEdited rows l made) (same ∙ are.edits_are ∙ ap (all_edits names) whole) done;
    }
