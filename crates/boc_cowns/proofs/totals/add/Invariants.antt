use Rattle.boc_cowns.proofs.Added.{SomeAdded}
use Rattle.boc_cowns.proofs.totals.add.Given as goal

-- the ticks are added for the cowns so far
abbrev pub invariant-loop-cown : goal.invariant-loop-cown
invariant-loop-cown l = SomeAdded l.cowns l.ticks l.cown-index l.fn.totals l.totals
