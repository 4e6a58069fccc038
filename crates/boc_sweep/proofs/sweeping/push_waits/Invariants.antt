use Rattle.boc_sweep.specs.Crossing.{ArePushed}
use Rattle.boc_sweep.proofs.sweeping.push_waits.Given as goal

-- the waits so far are noted among the stretches
abbrev pub invariant-loop-before : goal.invariant-loop-before
invariant-loop-before l = ArePushed l.waits l.row l.tail l.ends l.chosen l.fn.stretches.items l.before-index l.stretches.items
