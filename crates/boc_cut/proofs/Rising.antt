-- The rows of a window, looked at one after the other.
use Rattle.std.proofs.Common.{◌≡◌, ◌<◌, ◌≤◌, ◌+◌, ◌∙◌, ℕ, List, length, subst, sym, inl, inr, arith}
use Rattle.std.specs.Prelude.{Option, Some, None, MatchOption, slice_get}
use Rattle.std.proofs.lemmas.Bool.{cases_lt}
use Rattle.std.proofs.lemmas.Option.{none-some, same_Some, slice_get_within}
use Rattle.boc_cut.specs.Windows.{Rise}

-- the numbers of the first rows rise, and none is above this last one
pub record Risen (origins : List (Option ℕ)) (place : ℕ) (last : Option ℕ) : Type 0 where
  pub rising : (row later number other : ℕ) → row < later → later < place → slice_get origins row ≡ Some (Some number)
      → slice_get origins later ≡ Some (Some other) → number < other
  pub most : (row number : ℕ) → row < place → slice_get origins row ≡ Some (Some number) → MatchOption last ⊥ (λ n. number ≤ n)

below_last : (last : Option ℕ) (number n : ℕ) → MatchOption last ⊥ (λ m. number ≤ m) → MatchOption last (Unit {0}) (λ m. m < n) → number < n
below_last None number n most above = absurd most
below_last (Some m) number n most above = omega (arith, most, above)

pub risen_none : (origins : List (Option ℕ)) (place : ℕ) (last : Option ℕ) → Risen origins place last → slice_get origins place ≡ Some None
    → Risen origins (place + 1) last
risen_none origins place last risen is = record {
  rising = λ row later number other before within a b. elim (cases_lt later place) [
    | inl l ↦ risen.rising row later number other before l a b
    | inr g ↦ absurd (none_there later other (omega (arith, g, within)) b)
  ];
  most = λ row number within a. elim (cases_lt row place) [
    | inl l ↦ risen.most row number l a
    | inr g ↦ absurd (none_there row number (omega (arith, g, within)) a)
  ];
}
  where
    none_there : (row number : ℕ) → row ≡ place → slice_get origins row ≡ Some (Some number) → ⊥
    none_there row number here a = none-some number (same_Some None (Some number) (sym is ∙ subst (λ r. slice_get origins r ≡ Some (Some number)) here a))

pub risen_some : (origins : List (Option ℕ)) (place : ℕ) (last : Option ℕ) (n : ℕ) → Risen origins place last → slice_get origins place ≡ Some (Some n)
    → MatchOption last (Unit {0}) (λ m. m < n) → Risen origins (place + 1) (Some n)
risen_some origins place last n risen is above = record {
  rising = λ row later number other before within a b. elim (cases_lt later place) [
    | inl l ↦ risen.rising row later number other before l a b
    | inr g ↦ omega (
      arith,
      same later other (omega (arith, g, within)) b,
      below_last last number n (risen.most row number (omega (arith, before, within)) a) above,
    )
  ];
  most = λ row number within a. elim (cases_lt row place) [
    | inl l ↦ omega (arith, below_last last number n (risen.most row number l a) above)
    | inr g ↦ omega (arith, same row number (omega (arith, g, within)) a)
  ];
}
  where
    same : (row number : ℕ) → row ≡ place → slice_get origins row ≡ Some (Some number) → number ≡ n
    same row number here a =
        same_Some number n (same_Some (Some number) (Some n) (sym (subst (λ r. slice_get origins r ≡ Some (Some number)) here a) ∙ is))

pub risen_all : (origins : List (Option ℕ)) (place : ℕ) (last : Option ℕ) → Risen origins place last → length origins ≤ place → Rise origins
risen_all origins place last risen over = λ row later number other before a b.
    risen.rising row later number other before (omega (arith, over, slice_get_within origins later (Some other) b)) a b
