use Rattle.std.proofs.Common.{ℕ, ◌<◌}
use Rattle.boc_eager.specs.Swaps.{GoesAhead}
use Rattle.boc_eager.proofs.swap.passed_by.Given as goal

-- the row goes ahead of none so far
abbrev pub invariant-loop-row : goal.invariant-loop-row
invariant-loop-row l = (a : ℕ) → a < l.row → GoesAhead l.rows l.starts a l.ahead → ⊥
