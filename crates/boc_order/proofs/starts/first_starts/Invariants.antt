use Rattle.boc_order.specs.Least.{AreFirstStarts}
use Rattle.boc_order.proofs.starts.first_starts.Given as goal

-- the rows so far
abbrev pub invariant-loop-row : goal.invariant-loop-row
invariant-loop-row l = AreFirstStarts l.rows l.starts l.row l.firsts.items
