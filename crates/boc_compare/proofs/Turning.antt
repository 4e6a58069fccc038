-- Two runs in the other order, and a run beside itself.
use Rattle.std.proofs.Common.{◌≡◌, ◌∙◌, ⊎_elim, List, [], ◌∷◌}
use Rattle.std.proofs.Common.{cond, Bool, true, false, Option, Some, None, ap, refl, subst, sym, arith}
use Rattle.std.specs.Prelude.{All, unwrap_or}
use Rattle.std.specs.List.{Contains}
use Rattle.std.specs.Option.{is_some}
use Rattle.std.specs.Str.{bytes_eq}
use Rattle.std.proofs.lemmas.Bool.{cases_Bool}
use Rattle.std.proofs.lemmas.List.Elements.{All-contains_itself, All-weaker, Contains-append_cases, Contains-append_left, Contains-append_right}
use Rattle.std.proofs.lemmas.List.Sorted.{All-permutation, Contains-permutation, IsPermutation-sym}
use Rattle.std.proofs.lemmas.Slice.Eq.{bytes_eq-Decides}
use Rattle.boc_order.proofs.Ranked.{contains_cases, contains_first, contains_more}
use Rattle.boc_names.specs.Names.{Text, text_at}
use Rattle.boc_compare.specs.declared.pairs.Pair.{Pair}
use Rattle.boc_compare.specs.declared.totals.Totals.{Totals}
use Rattle.boc_compare.specs.Changing.{turned}
use Rattle.boc_compare.specs.Pairing.{AreChanges, AreNamedApart, first_of, only_after, paired, with_after}

none_some : (own : Totals) (o : Option Totals) → o ≡ None → o ≡ Some own → ⊥
none_some own o e f = let bad : ⊥ = cc in bad

no_element : {X : Type 0} (x : X) → Contains [] x → ⊥
no_element x h = omega (arith, h.1)

-- ---- the first of a name

some_same : (x y : Totals) → Some x ≡ Some y → x ≡ y
some_same x y e = ap (λ (o : Option Totals). unwrap_or o x) e

first_some : (names : List Text) (list : List Totals) (q : Text) (own : Totals) → first_of names list q ≡ Some own
    → Contains list own × (text_at names own.key ≡ q)
first_some names [] q own e = absurd (none_some own None refl e)
first_some names (x ∷ list) q own e = ⊎_elim
    (λ (same : bytes_eq (text_at names x.key) q ≡ true).
    let is : x ≡ own = some_same x own (rw same at e) in (
      subst (Contains (x ∷ list)) is (contains_first x list),
      ap (λ (y : Totals). text_at names y.key) (sym is) ∙ (bytes_eq-Decides (text_at names x.key) q).0 same,
    ))
    (λ (apart : bytes_eq (text_at names x.key) q ≡ false).
    let rest = first_some names list q own (rw apart at e) in
    (contains_more x list own rest.0, rest.1))
    (cases_Bool (bytes_eq (text_at names x.key) q))

first_there : (names : List Text) (list : List Totals) (own : Totals) → AreNamedApart names list → Contains list own
    → first_of names list (text_at names own.key) ≡ Some own
first_there names [] own apart stands = absurd (no_element own stands)
first_there names (x ∷ list) own apart stands =
    let same_name : bytes_eq (text_at names x.key) (text_at names x.key) ≡ true =
    (bytes_eq-Decides (text_at names x.key) (text_at names x.key)).1 refl in
    ⊎_elim
    (λ (is : x ≡ own). subst (λ (y : Totals). first_of names (x ∷ list) (text_at names y.key) ≡ Some y) is (rw same_name refl))
    (λ (later : Contains list own).
    let rest = first_there names list own apart.1 later in
    ⊎_elim
    (λ (same : bytes_eq (text_at names x.key) (text_at names own.key) ≡ true). absurd (none_some own (first_of names list (text_at names own.key))
    (subst (λ (t : Text). first_of names list t ≡ None) ((bytes_eq-Decides (text_at names x.key) (text_at names own.key)).0 same) apart.0) rest))
    (λ (other : bytes_eq (text_at names x.key) (text_at names own.key) ≡ false). rw other rest)
    (cases_Bool (bytes_eq (text_at names x.key) (text_at names own.key))))
    (contains_cases x list own stands)

-- ---- pairs as they come

abbrev alone : Totals → Pair
alone own = record { before = None; after = Some own }

module _ (before_names after_names : List Text) where
  abbrev beside : List Totals → Totals → Pair
  beside after own = record { before = Some own; after = first_of after_names after (text_at before_names own.key) }

  in_with : (before after : List Totals) (own : Totals) → Contains before own → Contains (with_after before_names before after_names after) (beside after own)
  in_with [] after own stands = absurd (no_element own stands)
  in_with (x ∷ before) after own stands =
      let rest : List Pair = with_after before_names before after_names after in
      ⊎_elim
      (λ (is : x ≡ own). subst (λ (y : Totals). Contains (beside after x ∷ rest) (beside after y)) is (contains_first (beside after x) rest))
      (λ (later : Contains before own). contains_more (beside after x) rest (beside after own) (in_with before after own later))
      (contains_cases x before own stands)

  from_with : (before after : List Totals) (pair : Pair) → Contains (with_after before_names before after_names after) pair
      → (own : Totals) × Contains before own × (beside after own ≡ pair)
  from_with [] after pair stands = absurd (no_element pair stands)
  from_with (x ∷ before) after pair stands = ⊎_elim
      (λ (is : beside after x ≡ pair). (x, contains_first x before, is))
      (λ (later : Contains (with_after before_names before after_names after) pair).
      let rest = from_with before after pair later in
      (rest.0, contains_more x before rest.0 rest.1, rest.2))
      (contains_cases (beside after x) (with_after before_names before after_names after) pair stands)

  in_only : (before after : List Totals) (own : Totals) → Contains after own → first_of before_names before (text_at after_names own.key) ≡ None
      → Contains (only_after before_names before after_names after) (alone own)
  in_only before [] own stands none = absurd (no_element own stands)
  in_only before (x ∷ after) own stands none =
      let rest : List Pair = only_after before_names before after_names after in
      ⊎_elim
      (λ (is : x ≡ own).
      let gone : is_some (first_of before_names before (text_at after_names x.key)) ≡ false =
      ap is_some (subst (λ (y : Totals). first_of before_names before (text_at after_names y.key) ≡ None) (sym is) none) in
      rw gone (subst (λ (y : Totals). Contains (alone x ∷ rest) (alone y)) is (contains_first (alone x) rest)))
      (λ (later : Contains after own). either (is_some (first_of before_names before (text_at after_names x.key))) (alone x) rest (alone own)
      (in_only before after own later none))
      (contains_cases x after own stands)
    where
      either : (b : Bool) (p : Pair) (rest : List Pair) (q : Pair) → Contains rest q → Contains (cond b rest (p ∷ rest)) q
      either true p rest q h = h
      either false p rest q h = contains_more p rest q h

  -- it is one of those after, and stands alone
  abbrev ComesAlone : List Totals → List Totals → Pair → Type 0
  ComesAlone before after pair =
      (own : Totals) × Contains after own × (first_of before_names before (text_at after_names own.key) ≡ None) × (alone own ≡ pair)

  from_only : (before after : List Totals) (pair : Pair) → Contains (only_after before_names before after_names after) pair → ComesAlone before after pair
  from_only before [] pair stands = absurd (no_element pair stands)
  from_only before (x ∷ after) pair stands =
      split (first_of before_names before (text_at after_names x.key)) refl
      (λ h. let found = from_only before after pair h in (found.0, contains_more x after found.0 found.1, found.2, found.3))
    where
      split : (o : Option Totals) → first_of before_names before (text_at after_names x.key) ≡ o
          → (Contains (only_after before_names before after_names after) pair → ComesAlone before (x ∷ after) pair) → ComesAlone before (x ∷ after) pair
      split None e later = ⊎_elim
          (λ (is : alone x ≡ pair). (x, contains_first x after, e, is))
          later
          (contains_cases (alone x) (only_after before_names before after_names after) pair (rw e at stands))
      split (Some y) e later = later (rw e at stands)

-- ---- the other way round

module _ (before_names after_names : List Text) (before after : List Totals) (apart : AreNamedApart before_names before) where
  abbrev others : List Pair
  others = paired after after_names before before_names

  turned_beside : (own : Totals) → Contains before own → Contains others (turned (beside before_names after_names after own))
  turned_beside own stands = split (first_of after_names after (text_at before_names own.key)) refl
    where
      split : (o : Option Totals) → first_of after_names after (text_at before_names own.key) ≡ o
          → Contains others (record { before = first_of after_names after (text_at before_names own.key); after = Some own })
      split None e = subst (λ (o : Option Totals). Contains others (record { before = o; after = Some own })) (sym e)
          (Contains-append_right (with_after after_names after before_names before) (only_after after_names after before_names before) (alone own)
          (in_only after_names before_names after before own stands e))
      split (Some b) e =
          let found = first_some after_names after (text_at before_names own.key) b e in
          let back : first_of before_names before (text_at after_names b.key) ≡ Some own =
          ap (first_of before_names before) found.1 ∙ first_there before_names before own apart stands in
          subst (λ (o : Option Totals). Contains others (record { before = o; after = Some own })) (sym e)
          (subst (λ (o : Option Totals). Contains others (record { before = Some b; after = o })) back
          (Contains-append_left (with_after after_names after before_names before) (only_after after_names after before_names before)
          (beside after_names before_names before b) (in_with after_names before_names after before b found.0)))

  turned_alone : (own : Totals) → Contains after own → first_of before_names before (text_at after_names own.key) ≡ None
      → Contains others (turned (alone own))
  turned_alone own stands none = subst (λ (o : Option Totals). Contains others (record { before = Some own; after = o })) none
      (Contains-append_left (with_after after_names after before_names before) (only_after after_names after before_names before)
      (beside after_names before_names before own) (in_with after_names before_names after before own stands))

  turned_there : (pair : Pair) → Contains (paired before before_names after after_names) pair → Contains others (turned pair)
  turned_there pair stands = ⊎_elim
      (λ (first : Contains (with_after before_names before after_names after) pair).
      let at = from_with before_names after_names before after pair first in
      subst (λ (p : Pair). Contains others (turned p)) at.2 (turned_beside at.0 at.1))
      (λ (second : Contains (only_after before_names before after_names after) pair).
      let at = from_only before_names after_names before after pair second in
      subst (λ (p : Pair). Contains others (turned p)) at.3 (turned_alone at.0 at.1 at.2))
      (Contains-append_cases (with_after before_names before after_names after) (only_after before_names before after_names after) pair stands)

  pub turned_change : (pairs turns : List Pair) → AreChanges before before_names after after_names pairs
      → AreChanges after after_names before before_names turns
      → (pair : Pair) → Contains pairs pair → Contains turns (turned pair)
  turned_change pairs turns a b pair stands = Contains-permutation others turns (turned pair) b.all
      (turned_there pair (Contains-permutation pairs (paired before before_names after after_names) pair
      (IsPermutation-sym (paired before before_names after after_names) pairs a.all) stands))

-- ---- beside itself

abbrev IsSame : Pair → Type 0
IsSame pair = pair.before ≡ pair.after

module _ (names : List Text) (list : List Totals) (apart : AreNamedApart names list) where
  same_pair : (pair : Pair) → Contains (paired list names list names) pair → IsSame pair
  same_pair pair stands = ⊎_elim
      (λ (first : Contains (with_after names list names list) pair).
      let at = from_with names names list list pair first in
      subst IsSame at.2 (sym (first_there names list at.0 apart at.1)))
      (λ (second : Contains (only_after names list names list) pair).
      let at = from_only names names list list pair second in
      absurd (none_some at.0 (first_of names list (text_at names at.0.key)) at.2 (first_there names list at.0 apart at.1)))
      (Contains-append_cases (with_after names list names list) (only_after names list names list) pair stands)

  pub same_pairs : (pairs : List Pair) → AreChanges list names list names pairs → All IsSame pairs
  same_pairs pairs are = All-permutation IsSame (paired list names list names) pairs are.all
      (All-weaker (Contains (paired list names list names)) IsSame same_pair (paired list names list names)
      (All-contains_itself (paired list names list names)))
