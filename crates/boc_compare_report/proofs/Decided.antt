-- Lists in falling order, which are alike among those that weigh as much, are one list.
use Rattle.std.proofs.Common.{◌≡◌, ◌∙◌, ◌⊎◌, inl, inr, ℕ, zero, suc, ◌<◌, Bool, true, false, cond, List, [], ◌∷◌, length, get_or, drop, refl, ap, sym}
use Rattle.std.proofs.Common.{Option, Some, subst, arith}
use Rattle.std.proofs.lemmas.Bool.Decides.{nat_tests}
use Rattle.std.specs.Prelude.{slice_get, ◌==◌, ◌&&◌, filter, unwrap_or}
use Rattle.std.proofs.lemmas.List.Sorted.{length_permutation}
use Rattle.boc_names.specs.Names.{Text}
use Rattle.boc_compare.specs.declared.pairs.Pair.{Pair}
use Rattle.boc_compare.specs.declared.totals.Totals.{Totals}
use Rattle.boc_compare.specs.Pairing.{AreChanges, IsNoLighter, chain_of, ticks_of, weighs_as_much}

-- ---- numbers

same_from_test : (a b c d : ℕ) → (a == b) && (c == d) ≡ true → (a ≡ b) × (c ≡ d)
same_from_test a b c d e = (grind (arith, nat_tests), grind (arith, nat_tests))

test_from_same : (a b c d : ℕ) → a ≡ b → c ≡ d → (a == b) && (c == d) ≡ true
test_from_same a b c d e f = grind (arith, nat_tests)

-- what is no lighter than another, which is no lighter either, weighs as much
both_ways : (a b c d : ℕ) → (b < a) ⊎ ((a ≡ b) × ((d < c) ⊎ (c ≡ d))) → (a < b) ⊎ ((b ≡ a) × ((c < d) ⊎ (d ≡ c))) → (a ≡ b) × (c ≡ d)
both_ways a b c d (inl h) (inl k) = absurd (omega (arith, h, k))
both_ways a b c d (inl h) (inr k) = absurd (omega (arith, h, k.0))
both_ways a b c d (inr h) (inl k) = absurd (omega (arith, h.0, k))
both_ways a b c d (inr (e, inr h)) (inr k) = (e, h)
both_ways a b c d (inr (e, inl h)) (inr (k, inl l)) = absurd (omega (arith, h, l))
both_ways a b c d (inr (e, inl h)) (inr (k, inr l)) = absurd (omega (arith, h, l))

-- ---- lists with a test

some_is_not_none : {X : Type 0} (x : X) (xs : List X) → x ∷ xs ≡ [] → ⊥
some_is_not_none x xs e = let many : suc (length xs) ≡ 0 = ap length e in omega (arith, many)

keeps : {X : Type 0} (test : X → Bool) (x : X) (xs : List X) → test x ≡ true → filter test (x ∷ xs) ≡ x ∷ filter test xs
keeps test x xs e = ap (λ (b : Bool). cond b (x ∷ filter test xs) (filter test xs)) e

skips : {X : Type 0} (test : X → Bool) (x : X) (xs : List X) → test x ≡ false → filter test (x ∷ xs) ≡ filter test xs
skips test x xs e = ap (λ (b : Bool). cond b (x ∷ filter test xs) (filter test xs)) e

some_if : {X : Type 0} (test : X → Bool) (x : X) (xs : List X) (b : Bool) → test x ≡ b → (filter test (x ∷ xs) ≡ [] → ⊥)
    → ((filter test xs ≡ [] → ⊥) → (j : ℕ) × (z : X) × (slice_get xs j ≡ Some z) × (test z ≡ true))
    → (j : ℕ) × (z : X) × (slice_get (x ∷ xs) j ≡ Some z) × (test z ≡ true)
some_if test x xs true is some rest = (0, x, refl, is)
some_if test x xs false is some rest =
    let (j, z, at, passes) = rest (λ none. some (skips test x xs is ∙ none)) in (suc j, z, at, passes)

-- where some pass a test, this is one of them
some_in : {X : Type 0} (test : X → Bool) (xs : List X) → (filter test xs ≡ [] → ⊥) → (j : ℕ) × (z : X) × (slice_get xs j ≡ Some z) × (test z ≡ true)
some_in test [] some = absurd (some refl)
some_in test (x ∷ xs) some = some_if test x xs (test x) refl some (some_in test xs)

-- ---- pairs

-- the first ones weigh no less
abbrev Falls : List Pair → Type 0
Falls pairs = (i j : ℕ) (a b : Pair) → i < j → slice_get pairs i ≡ Some a → slice_get pairs j ≡ Some b → IsNoLighter a b

falls_behind : (x : Pair) (xs : List Pair) → Falls (x ∷ xs) → Falls xs
falls_behind x xs falls i j a b less at to = falls (suc i) (suc j) a b (omega (arith, less)) at to

-- the first of some is no lighter than what weighs as much as one of them
no_lighter_at : (x y : Pair) (ys : List Pair) (j : ℕ) (z : Pair) → Falls (y ∷ ys) → slice_get (y ∷ ys) j ≡ Some z → (chain_of x ≡ chain_of z)
    × (ticks_of x ≡ ticks_of z) → IsNoLighter y x
no_lighter_at x y ys zero z falls at (e, f) =
    let here : y ≡ z = ap (λ (own : Option Pair). unwrap_or own y) at in
    inr (ap chain_of here ∙ sym e, inr (ap ticks_of here ∙ sym f))
no_lighter_at x y ys (suc j) z falls at (e, f) =
    let far : IsNoLighter y z = falls 0 (suc j) y z (omega arith) refl at in
    subst (λ (n : ℕ). (n < chain_of y) ⊎ ((chain_of y ≡ n) × ((ticks_of x < ticks_of y) ⊎ (ticks_of y ≡ ticks_of x)))) (sym e)
    (subst (λ (n : ℕ). (chain_of z < chain_of y) ⊎ ((chain_of y ≡ chain_of z) × ((n < ticks_of y) ⊎ (ticks_of y ≡ n)))) (sym f) far)

no_lighter : (x y : Pair) (ys : List Pair) → Falls (y ∷ ys) → (filter (weighs_as_much x) (y ∷ ys) ≡ [] → ⊥) → IsNoLighter y x
no_lighter x y ys falls some =
    let (j, z, at, same) = some_in (weighs_as_much x) (y ∷ ys) some in
    no_lighter_at x y ys j z falls at (same_from_test (chain_of x) (chain_of z) (ticks_of x) (ticks_of z) same)

weighs_as_itself : (p : Pair) → weighs_as_much p p ≡ true
weighs_as_itself p = test_from_same (chain_of p) (chain_of p) (ticks_of p) (ticks_of p) refl refl

-- what weighs as much behind the first of two lists
behind_first : (p x y : Pair) (xs ys : List Pair) (b : Bool) → weighs_as_much p x ≡ b
    → filter (weighs_as_much p) (x ∷ xs) ≡ filter (weighs_as_much p) (y ∷ ys) → x ≡ y → filter (weighs_as_much p) xs ≡ filter (weighs_as_much p) ys
behind_first p x y xs ys true is same one =
    ap (λ (all : List Pair). drop 1 all) (sym (keeps (weighs_as_much p) x xs is) ∙ (same
    ∙ keeps (weighs_as_much p) y ys (ap (weighs_as_much p) (sym one) ∙ is)))
behind_first p x y xs ys false is same one =
    sym (skips (weighs_as_much p) x xs is) ∙ (same ∙ skips (weighs_as_much p) y ys (ap (weighs_as_much p) (sym one) ∙ is))

decided : (xs ys : List Pair) → length xs ≡ length ys → Falls xs → Falls ys
    → ((p : Pair) → filter (weighs_as_much p) xs ≡ filter (weighs_as_much p) ys) → xs ≡ ys
decided [] [] long fx fy same = refl
decided [] (y ∷ ys) long fx fy same = absurd (omega (arith, long))
decided (x ∷ xs) [] long fx fy same = absurd (omega (arith, long))
decided (x ∷ xs) (y ∷ ys) long fx fy same =
    let mine : filter (weighs_as_much x) (x ∷ xs) ≡ x ∷ filter (weighs_as_much x) xs = keeps (weighs_as_much x) x xs (weighs_as_itself x) in
    let yours : filter (weighs_as_much y) (y ∷ ys) ≡ y ∷ filter (weighs_as_much y) ys = keeps (weighs_as_much y) y ys (weighs_as_itself y) in
    let down : IsNoLighter y x = no_lighter x y ys fy (λ none. some_is_not_none x (filter (weighs_as_much x) xs) (sym mine ∙ (same x ∙ none))) in
    let up : IsNoLighter x y = no_lighter y x xs fx (λ none. some_is_not_none y (filter (weighs_as_much y) ys) (sym yours ∙ (sym (same y) ∙ none))) in
    let keys = both_ways (chain_of y) (chain_of x) (ticks_of y) (ticks_of x) down up in
    let alike : weighs_as_much x y ≡ true = test_from_same (chain_of x) (chain_of y) (ticks_of x) (ticks_of y) (sym keys.0) (sym keys.1) in
    let heads : x ∷ filter (weighs_as_much x) xs ≡ y ∷ filter (weighs_as_much x) ys = sym mine ∙ (same x ∙ keeps (weighs_as_much x) y ys alike) in
    let one : x ≡ y = ap (λ (all : List Pair). get_or all 0 x) heads in
    let rest : xs ≡ ys = decided xs ys (omega (arith, long)) (falls_behind x xs fx) (falls_behind y ys fy)
    (λ p. behind_first p x y xs ys (weighs_as_much p x) refl (same p) one) in
    λ i. one i ∷ rest i

-- the changes of two runs are one list
pub changes_decided : (before : List Totals) (before_names : List Text) (after : List Totals) (after_names : List Text) (pairs others : List Pair)
    → AreChanges before before_names after after_names pairs → AreChanges before before_names after after_names others → pairs ≡ others
changes_decided before before_names after after_names pairs others x y =
    decided pairs others (length_permutation _ pairs x.all ∙ sym (length_permutation _ others y.all)) x.sorted y.sorted
    (λ p. x.as_they_come p ∙ sym (y.as_they_come p))
