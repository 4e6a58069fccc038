-- Examples of tallies, also of what is none.
use Rattle.std.proofs.Common.{◌≡◌, ◌^◌, ◌-◌, List, [], ◌∷◌, arith, refl, Some, pos}
use Rattle.boc_outcomes.specs.Samples.{Sample, seed_of}
use Rattle.boc_outcomes.specs.Tallies.{Any, AreBounds, IsFirstTo, runs_to, widened}

-- three runs, of which the first and the last end alike
abbrev first_run : Sample
first_run = record { values = pos 1 ∷ []; rows = 2; span = 5 }

abbrev second_run : Sample
second_run = record { values = pos 2 ∷ []; rows = 3; span = 4 }

abbrev third_run : Sample
third_run = record { values = pos 1 ∷ []; rows = 2; span = 9 }

abbrev runs : List Sample
runs = first_run ∷ second_run ∷ third_run ∷ []

two_end_so : runs_to (pos 1 ∷ []) runs ≡ 2
two_end_so = refl

one_ends_so : runs_to (pos 2 ∷ []) runs ≡ 1
one_ends_so = refl

-- one value more is another end
none_ends_so : runs_to (pos 1 ∷ pos 1 ∷ []) runs ≡ 0
none_ends_so = refl

-- seeds go on behind the greatest
seed_wraps : seed_of (2 ^ 64 - 1) 1 ≡ 0
seed_wraps = refl

-- the last run is not the first that ended as it did
not_the_first : IsFirstTo (pos 1 ∷ []) runs 2 → ⊥
not_the_first is = is.none_before 0 first_run (omega arith) refl refl

-- the span of one of two runs is not the bounds of both
not_the_bounds : AreBounds Any (λ s. s.span) runs (widened (Some (record { least = 5; most = 5 })) 9) → ⊥
not_the_bounds are = let w = are.within second_run (1, omega arith, refl) tt in omega (arith, w.0)
