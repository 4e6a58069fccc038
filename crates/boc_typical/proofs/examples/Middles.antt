-- The definition of a median tried on some numbers.
use Rattle.std.proofs.Common.{ℕ, [], ◌∷◌, arith}
use Rattle.boc_typical.specs.Medians.{IsMedian}

pub of_one : IsMedian (7 ∷ []) 7
of_one = record { few_less = omega arith; more_up_to = omega arith }

-- of two it is the less, in whatever order they stand
pub of_two : IsMedian (9 ∷ 4 ∷ []) 4
of_two = record { few_less = omega arith; more_up_to = omega arith }

pub not_the_greater_of_two : IsMedian (9 ∷ 4 ∷ []) 9 → ⊥
not_the_greater_of_two h = omega (arith, h.few_less)

pub of_three : IsMedian (8 ∷ 2 ∷ 3 ∷ []) 3
of_three = record { few_less = omega arith; more_up_to = omega arith }

pub not_the_least_of_three : IsMedian (8 ∷ 2 ∷ 3 ∷ []) 2 → ⊥
not_the_least_of_three h = omega (arith, h.more_up_to)

pub not_between_two : IsMedian (8 ∷ 2 ∷ []) 5 → ⊥
not_between_two h = omega (arith, h.few_less)

-- of four with equal ones
pub of_four : IsMedian (3 ∷ 8 ∷ 3 ∷ 1 ∷ []) 3
of_four = record { few_less = omega arith; more_up_to = omega arith }

pub of_none : (median : ℕ) → IsMedian [] median → ⊥
of_none median h = omega (arith, h.more_up_to)
