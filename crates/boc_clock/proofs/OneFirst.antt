-- One worker is due first.
use Rattle.std.proofs.Common.{◌≡◌, ℕ, ◌<◌, inl, inr, List, arith}
use Rattle.std.proofs.lemmas.Bool.{cases_lt}
use Rattle.boc_clock.specs.declared.clocks.Clocks.{Clocks}
use Rattle.boc_clock.specs.Clocks.{IsDueFirst}

not_before : (c : Clocks) (movers : List ℕ) (i j : ℕ) → IsDueFirst c movers i → IsDueFirst c movers j → i < j → ⊥
not_before c movers i j a b low = omega (arith, b.first i low, a.least j b.there)

pub one_first : (c : Clocks) (movers : List ℕ) (i j : ℕ) → IsDueFirst c movers i → IsDueFirst c movers j → i ≡ j
one_first c movers i j a b = elim (cases_lt i j) [
  | inl low ↦ absurd (not_before c movers i j a b low)
  | inr high ↦ elim (cases_lt j i) [
    | inl low ↦ absurd (not_before c movers j i b a low)
    | inr other ↦ omega (arith, high, other)
  ]
]
