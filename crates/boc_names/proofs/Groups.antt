-- Groups of texts, one text after another.
use Rattle.std.proofs.Common.{◌≡◌, ◌≢◌, ◌∙◌, ℕ, suc, ◌+◌, ◌<◌, ◌≤◌, List, [], ◌∷◌, ◌++◌, length, get_or, take, ◌^◌, refl}
use Rattle.std.proofs.Common.{sym, ap, subst, arith, inl, inr, ⊎_elim, Option, Some, None}
use Rattle.std.proofs.Common.{cond, true, false}
use Rattle.std.specs.Prelude.{map, MatchOption, All, Vec}
use Rattle.std.specs.Global.{Global}
use Rattle.std.specs.List.{AllByRecursion}
use Rattle.std.specs.BTreeMap.{BTreeMap}
use Rattle.std.specs.Str.{bytes_eq}
use denote.Ref.{Bor}
use Rattle.std.proofs.lemmas.Bool.{cases_lt}
use Rattle.std.proofs.lemmas.List.{map-append, length_push, length-take, get_or_append_left, get_or_push}
use Rattle.std.proofs.lemmas.List.Elements.{All-from_recursion}
use Rattle.std.proofs.lemmas.Option.{unwrap_or-slice_get, slice_get-get_or, MatchOption-at_some, MatchOption-at_none}
use Rattle.std.proofs.lemmas.Slice.Eq.{bytes_eq-Decides}
use Rattle.std.proofs.lemmas.Bool.{cases_Bool}
use Rattle.boc_names.specs.Names.{Text, text_at, texts_of}
use Rattle.boc_names.proofs.Counts.{map_next}
use Rattle.boc_names.specs.Grouping.{CountUp, AreDistinct, IsGrouping}
use Rattle.boc_names.specs.Laying.{number_seen, IsNew, IsNameAt, KnowsNames, TakesName}

-- ---- names with one more after them

text_at_left : (names : List Text) (more : List Text) (i : ℕ) → i < length names → text_at (names ++ more) i ≡ text_at names i
text_at_left names more i less =
    unwrap_or-slice_get (names ++ more) i [] ∙ get_or_append_left names more [] i less ∙ sym (unwrap_or-slice_get names i [])

text_at_last : (names : List Text) (text : Text) (i : ℕ) → i ≡ length names → text_at (names ++ text ∷ []) i ≡ text
text_at_last names text i is = unwrap_or-slice_get (names ++ text ∷ []) i [] ∙ get_or_push names text [] i (sym is)

distinct_push : (names : List Text) (text : Text) → AreDistinct names → IsNew names text → AreDistinct (names ++ text ∷ [])
distinct_push names text distinct fresh i j p q e =
    let more = length_push names text in
    ⊎_elim
    (λ (a : i < length names). ⊎_elim
    (λ (b : j < length names). distinct i j a b (sym (text_at_left names (text ∷ []) i a) ∙ e ∙ text_at_left names (text ∷ []) j b))
    (λ (b : length names ≤ j). absurd (fresh i a
    (sym (text_at_left names (text ∷ []) i a) ∙ e ∙ text_at_last names text j (omega (arith, q, more, b)))))
    (cases_lt j (length names)))
    (λ (a : length names ≤ i). ⊎_elim
    (λ (b : j < length names). absurd (fresh j b
    (sym (text_at_left names (text ∷ []) j b) ∙ sym e ∙ text_at_last names text i (omega (arith, p, more, a)))))
    (λ (b : length names ≤ j). omega (arith, p, q, more, a, b))
    (cases_lt j (length names)))
    (cases_lt i (length names))

-- ---- numbers in order

count_old : (numbers : List ℕ) (next left k : ℕ) → CountUp next numbers left → k < left → CountUp next (numbers ++ k ∷ []) left
count_old [] next left k e less = inl (omega (arith, e, less), e)
count_old (n ∷ numbers) next left k count less = ⊎_elim
    (λ (old : (n < next) × CountUp next numbers left). inl (old.0, count_old numbers next left k old.1 less))
    (λ (new : (n ≡ next) × CountUp (suc next) numbers left). inr (new.0, count_old numbers (suc next) left k new.1 less))
    count

count_new : (numbers : List ℕ) (next left k : ℕ) → CountUp next numbers left → k ≡ left → CountUp next (numbers ++ k ∷ []) (suc left)
count_new [] next left k e is = inr (is ∙ sym e, ap suc e)
count_new (n ∷ numbers) next left k count is = ⊎_elim
    (λ (old : (n < next) × CountUp next numbers left). inl (old.0, count_new numbers next left k old.1 is))
    (λ (new : (n ≡ next) × CountUp (suc next) numbers left). inr (new.0, count_new numbers (suc next) left k new.1 is))
    count

pub count_rises : (numbers : List ℕ) (next left : ℕ) → CountUp next numbers left → next ≤ left
count_rises [] next left e = omega (arith, e)
count_rises (n ∷ numbers) next left count = ⊎_elim
    (λ (old : (n < next) × CountUp next numbers left). count_rises numbers next left old.1)
    (λ (new : (n ≡ next) × CountUp (suc next) numbers left). omega (arith, count_rises numbers (suc next) left new.1))
    count

-- there are no more names than numbers
count_few : (numbers : List ℕ) (next left : ℕ) → CountUp next numbers left → left ≤ next + length numbers
count_few [] next left e = omega (arith, e)
count_few (n ∷ numbers) next left count = ⊎_elim
    (λ (old : (n < next) × CountUp next numbers left). omega (arith, count_few numbers next left old.1))
    (λ (new : (n ≡ next) × CountUp (suc next) numbers left). omega (arith, count_few numbers (suc next) left new.1))
    count

count_below : (numbers : List ℕ) (next left : ℕ) → CountUp next numbers left → AllByRecursion (λ k. k < left) numbers
count_below [] next left e = tt
count_below (n ∷ numbers) next left count = ⊎_elim
    (λ (old : (n < next) × CountUp next numbers left). (omega (arith, old.0, count_rises numbers next left old.1), count_below numbers next left old.1))
    (λ (new : (n ≡ next) × CountUp (suc next) numbers left).
    (omega (arith, new.0, count_rises numbers (suc next) left new.1), count_below numbers (suc next) left new.1))
    count

below_wider : (numbers : List ℕ) (few many : ℕ) → few ≤ many → AllByRecursion (λ k. k < few) numbers → AllByRecursion (λ k. k < many) numbers
below_wider [] few many h below = tt
below_wider (n ∷ numbers) few many h below = (omega (arith, h, below.0), below_wider numbers few many h below.1)

map_left : (names more : List Text) (numbers : List ℕ) → AllByRecursion (λ k. k < length names) numbers
    → map (text_at names) numbers ≡ map (text_at (names ++ more)) numbers
map_left names more [] below = refl
map_left names more (n ∷ numbers) below =
    ap (λ (t : Text). t ∷ map (text_at names) numbers) (sym (text_at_left names more n below.0))
    ∙ ap (λ (ts : List Text). text_at (names ++ more) n ∷ ts) (map_left names more numbers below.1)

-- ---- groups

map_length : (f : ℕ → Text) (numbers : List ℕ) → length (map f numbers) ≡ length numbers
map_length f [] = refl
map_length f (n ∷ numbers) = ap suc (map_length f numbers)

-- each text has a number
pub numbers_whole : (texts : List Text) (numbers : List ℕ) (names : List Text) → IsGrouping texts numbers names → length numbers ≡ length texts
numbers_whole texts numbers names g = sym (ap length g.called ∙ map_length (text_at names) numbers)

-- there are no more groups than texts
pub few_names : (texts : List Text) (numbers : List ℕ) (names : List Text) → IsGrouping texts numbers names → length names ≤ length texts
few_names texts numbers names g = omega (arith, count_few numbers 0 (length names) g.in_order, numbers_whole texts numbers names g)

-- so each number is below that of the texts
pub few_numbers : (texts : List Text) (numbers : List ℕ) (names : List Text) (count : ℕ) → IsGrouping texts numbers names → length texts ≡ count
    → All (λ n. n < count) numbers
few_numbers texts numbers names count g is = All-from_recursion (λ n. n < count) numbers
    (below_wider numbers (length names) count (omega (arith, few_names texts numbers names g, is)) (count_below numbers 0 (length names) g.in_order))

pub grouping_none : IsGrouping [] [] []
grouping_none = record { called = refl; in_order = refl; distinct = λ i j p q e. absurd (omega (arith, p)) }

-- one text more
pub grouping_more : (texts : List Text) (numbers : List ℕ) (names : List Text) (text : Text) (n : ℕ) (new : List Text) → IsGrouping texts numbers names
    → TakesName names text n new → IsGrouping (texts ++ text ∷ []) (numbers ++ n ∷ []) new
grouping_more texts numbers names text n new g takes = ⊎_elim
    (λ (old : IsNameAt names text n × (new ≡ names)). subst (λ (ns : List Text). IsGrouping (texts ++ text ∷ []) (numbers ++ n ∷ []) ns) (sym old.1) (record {
      called = ap (λ (ts : List Text). ts ++ text ∷ []) g.called ∙ ap (λ (t : Text). map (text_at names) numbers ++ t ∷ []) (sym old.0.1)
          ∙ sym (map-append (text_at names) numbers (n ∷ []));
      in_order = count_old numbers 0 (length names) n g.in_order old.0.0;
      distinct = g.distinct;
    }))
    (λ (fresh : (n ≡ length names) × IsNew names text × (new ≡ names ++ text ∷ [])).
    let more : length (names ++ text ∷ []) ≡ suc (length names) = omega (arith, length_push names text) in
    subst (λ (ns : List Text). IsGrouping (texts ++ text ∷ []) (numbers ++ n ∷ []) ns) (sym fresh.2) (record {
      called = ap (λ (ts : List Text). ts ++ text ∷ []) (g.called ∙ map_left names (text ∷ []) numbers (count_below numbers 0 (length names) g.in_order))
          ∙ ap (λ (t : Text). map (text_at (names ++ text ∷ [])) numbers ++ t ∷ []) (sym (text_at_last names text n fresh.0))
          ∙ sym (map-append (text_at (names ++ text ∷ [])) numbers (n ∷ []));
      in_order = subst (CountUp 0 (numbers ++ n ∷ [])) (sym more) (count_new numbers 0 (length names) n g.in_order fresh.0);
      distinct = distinct_push names text g.distinct fresh.1;
    }))
    takes

-- ---- what is known of names

new_push : (names : List Text) (text other : Text) → text ≢ other → IsNew names other → IsNew (names ++ text ∷ []) other
new_push names text other apart fresh i p e =
    let more = length_push names text in
    ⊎_elim
    (λ (a : i < length names). fresh i a (sym (text_at_left names (text ∷ []) i a) ∙ e))
    (λ (a : length names ≤ i). apart (sym (text_at_last names text i (omega (arith, p, more, a))) ∙ e))
    (cases_lt i (length names))

known_push : (names : List Text) (text other : Text) (o : Option ℕ) → text ≢ other → MatchOption o (IsNew names other) (IsNameAt names other)
    → MatchOption o (IsNew (names ++ text ∷ []) other) (IsNameAt (names ++ text ∷ []) other)
known_push names text other None apart known = new_push names text other apart known
known_push names text other (Some n) apart known =
    (omega (arith, known.0, length_push names text), text_at_left names (text ∷ []) n known.0 ∙ known.1)

-- what is known where a text took the next number
pub knows_more : (old new : BTreeMap (Bor (List ℕ)) ℕ) (names : List Text) (text : Text) (n : ℕ) → n ≡ length names → KnowsNames old names
    → ((q : Text) → number_seen new q ≡ cond (bytes_eq text q) (Some n) (number_seen old q)) → KnowsNames new (names ++ text ∷ [])
knows_more old new names text n is known now q =
    subst (λ (o : Option ℕ). MatchOption o (IsNew (names ++ text ∷ []) q) (IsNameAt (names ++ text ∷ []) q)) (sym (now q)) (⊎_elim
    (λ (same : bytes_eq text q ≡ true). rw same
    (omega (arith, is, length_push names text), text_at_last names text n is ∙ (bytes_eq-Decides text q).0 same))
    (λ (apart : bytes_eq text q ≡ false). rw apart
    (known_push names text q (number_seen old q) (λ e. absurd (let t : bytes_eq text q ≡ true = (bytes_eq-Decides text q).1 e in cc)) (known q)))
    (cases_Bool (bytes_eq text q)))

-- a text with a known number takes that one, and one with none the next
pub takes_known : (seen : BTreeMap (Bor (List ℕ)) ℕ) (names : List Text) (text : Text) (n : ℕ) → KnowsNames seen names → number_seen seen text ≡ Some n
    → TakesName names text n names
takes_known seen names text n known is = inl (MatchOption-at_some (IsNew names text) (IsNameAt names text) n is (known text), refl)

pub takes_next : (seen : BTreeMap (Bor (List ℕ)) ℕ) (names new : List Text) (text : Text) (n : ℕ) → KnowsNames seen names → number_seen seen text ≡ None
    → n ≡ length names → new ≡ names ++ text ∷ [] → TakesName names text n new
takes_next seen names new text n known is number now =
    inr (number, MatchOption-at_none (IsNew names text) (IsNameAt names text) is (known text), now)

-- ---- vectors

-- the texts of as many vectors
pub texts_length : (texts : List (Vec ℕ Global)) → length (texts_of texts) ≡ length texts
texts_length [] = refl
texts_length (t ∷ texts) = ap suc (texts_length texts)

-- one vector more
pub texts_push : (texts : List (Vec ℕ Global)) (more : Vec ℕ Global) (text : Text) → more.items ≡ text
    → texts_of (texts ++ more ∷ []) ≡ texts_of texts ++ text ∷ []
texts_push texts more text is =
    map-append (λ (t : Vec ℕ Global). t.items) texts (more ∷ []) ∙ ap (λ (t : Text). texts_of texts ++ t ∷ []) is

pub texts_next : (texts : List (Vec ℕ Global)) (k : ℕ) (d : Vec ℕ Global) (text : Text) → k < length texts → text ≡ (get_or texts k d).items
    → texts_of (take (k + 1) texts) ≡ texts_of (take k texts) ++ text ∷ []
texts_next texts k d text there is =
    sym (map_next (λ (t : Vec ℕ Global). t.items) texts k (get_or texts k d) (slice_get-get_or texts k d there))
    ∙ ap (λ (t : Text). texts_of (take k texts) ++ t ∷ []) (sym is)

-- there are fewer names than texts while some are left
pub names_fit : (texts : List (Vec ℕ Global)) (k : ℕ) (numbers : List ℕ) (names : List (Vec ℕ Global))
    → IsGrouping (texts_of (take k texts)) numbers (texts_of names) → k < length texts → length texts < 2 ^ 32 → length names < 2 ^ 32
names_fit texts k numbers names g there few =
    omega (arith, few_names (texts_of (take k texts)) numbers (texts_of names) g, texts_length (take k texts), texts_length names, length-take k texts)
