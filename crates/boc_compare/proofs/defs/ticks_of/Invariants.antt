use Rattle.boc_compare.proofs.DefTotals.{TicksSoFar}
use Rattle.boc_compare.proofs.defs.ticks_of.Given as goal

-- the rows so far
abbrev pub invariant-loop-row : goal.invariant-loop-row
invariant-loop-row l = TicksSoFar l.rows l.defs l.row l.ticks.items
