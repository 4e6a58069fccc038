use Rattle.std.proofs.Common.{◌≡◌, ◌<◌, ℕ, length, slice_index}
use Rattle.boc_runs.specs.Rows.{IsFit, IsLast}
use Rattle.boc_runs.proofs.shape.are_fit.Given as goal

-- the rows so far are fit, and the table has their last children
abbrev pub invariant-loop-number : goal.invariant-loop-number
invariant-loop-number l =
    ((r : ℕ) → r < l.number → IsFit l.rows r) × ((p : ℕ) → IsLast l.rows l.number p (slice_index l.last p)) × (length l.last ≡ length l.fn.last)
