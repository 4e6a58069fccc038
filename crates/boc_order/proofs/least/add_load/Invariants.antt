use Rattle.boc_order.proofs.LeastLoads.{SomeAdded}
use Rattle.boc_order.proofs.least.add_load.Given as goal

-- the row's ticks are added for the cowns so far
abbrev pub invariant-loop-own : goal.invariant-loop-own
invariant-loop-own l = SomeAdded l.rows l.row l.own-index l.fn.loads l.loads
