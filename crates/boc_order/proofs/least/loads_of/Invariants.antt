use Rattle.std.proofs.Common.{take}
use Rattle.boc_order.specs.Least.{AreLoads}
use Rattle.boc_order.proofs.least.loads_of.Given as goal

-- the loads of the rows so far
abbrev pub invariant-loop-row : goal.invariant-loop-row
invariant-loop-row l = AreLoads (take l.row l.rows) l.loads.items
