use Rattle.std.proofs.Common.{ℕ, ◌<◌, ◌≤◌}
use Rattle.std.specs.Prelude.{slice_index}
use Rattle.boc_busy.proofs.keeping.are_over.Given as goal

-- the rows so far are over
abbrev pub invariant-loop-row : goal.invariant-loop-row
invariant-loop-row l = (k : ℕ) → k < l.row-index → slice_index l.ends (slice_index l.rows k) ≤ l.tick
