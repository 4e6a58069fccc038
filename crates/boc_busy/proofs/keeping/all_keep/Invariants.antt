use Rattle.std.proofs.Common.{ℕ, ◌<◌}
use Rattle.boc_busy.specs.Keeping.{KeepsAt}
use Rattle.boc_busy.proofs.keeping.all_keep.Given as goal

-- the rows so far keep
abbrev pub invariant-loop-row : goal.invariant-loop-row
invariant-loop-row l = (b : ℕ) → b < l.row → KeepsAt l.rows l.starts b
