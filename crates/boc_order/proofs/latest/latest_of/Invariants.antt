use Rattle.std.specs.Prelude.{slice_index}
use Rattle.boc_order.specs.Latest.{IsLatestOf}
use Rattle.boc_order.proofs.Remembering.{UpTo}
use Rattle.boc_order.proofs.latest.latest_of.Given as goal

-- the latest of the rows so far
abbrev pub invariant-loop-row : goal.invariant-loop-row
invariant-loop-row l = IsLatestOf (UpTo l.rows l.row-index) (slice_index l.ends) l.latest
