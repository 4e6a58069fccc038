use Rattle.boc_sweep.specs.Crossing.{AreCrossing}
use Rattle.boc_sweep.proofs.sweeping.all_stretches.Given as goal

-- the stretches of the rows so far
abbrev pub invariant-loop-row : goal.invariant-loop-row
invariant-loop-row l = AreCrossing l.cut l.rows l.plan.starts.items l.tails.starts.items l.chosen l.row l.stretches.items
