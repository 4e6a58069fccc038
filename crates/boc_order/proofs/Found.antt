-- Numbers that are found by a test.
use Rattle.std.proofs.Common.{◌≡◌, ◌⊎◌, inl, inr, ℕ, Bool, true, false, true≢false, List, refl, sym, ◌∙◌, arith}
use Rattle.std.specs.Prelude.{nat_eq}
use Rattle.std.specs.List.{Contains, list_any}
use Rattle.std.specs.Cmp.{nat_eq_equiv}
use Rattle.std.proofs.lemmas.Bool.Decides.{nat_tests}
use Rattle.std.proofs.lemmas.Map.Views.{Contains-from_any, list_any-from_Contains}

same_from_test : (x y : ℕ) → nat_eq x y ≡ true → x ≡ y
same_from_test x y e = grind (arith, nat_tests)

pub found : (c : ℕ) (xs : List ℕ) → list_any (nat_eq c) xs ≡ true → Contains xs c
found c xs e = Contains-from_any same_from_test c xs e

pub finds : (c : ℕ) (xs : List ℕ) → Contains xs c → list_any (nat_eq c) xs ≡ true
finds c xs h = list_any-from_Contains nat_eq_equiv c xs h

told : (c : ℕ) (xs : List ℕ) (b : Bool) → list_any (nat_eq c) xs ≡ b
    → ((list_any (nat_eq c) xs ≡ true) × Contains xs c) ⊎ ((list_any (nat_eq c) xs ≡ false) × (Contains xs c → ⊥))
told c xs true e = inl (e, found c xs e)
told c xs false e = inr (e, λ h. true≢false (sym (finds c xs h) ∙ e))

-- what the test tells
pub among_tells : (c : ℕ) (xs : List ℕ) → ((list_any (nat_eq c) xs ≡ true) × Contains xs c) ⊎ ((list_any (nat_eq c) xs ≡ false) × (Contains xs c → ⊥))
among_tells c xs = told c xs (list_any (nat_eq c) xs) refl
