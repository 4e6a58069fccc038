use Rattle.boc_order.specs.Least.{IsLatestOf}
use Rattle.boc_order.proofs.least.busiest_of.Given as goal

-- the busiest of the cowns so far
abbrev pub invariant-loop-cown : goal.invariant-loop-cown
invariant-loop-cown l = IsLatestOf l.loads l.firsts l.cown l.best
