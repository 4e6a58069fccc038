use Rattle.std.proofs.Common.{◌≡◌, ℕ, ◌<◌}
use Rattle.std.specs.Prelude.{Some}
use Rattle.boc_runs.specs.Lives.{Running}
use Rattle.boc_runs.specs.Legal.{life_of}
use Rattle.boc_stalled.proofs.stalled.none_runs.Given as goal

-- none of the rows so far runs
abbrev pub invariant-loop-row : goal.invariant-loop-row
invariant-loop-row l = (k : ℕ) → k < l.row → life_of l.run.rows k ≡ Some Running → ⊥
