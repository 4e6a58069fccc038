use Rattle.boc_sweep.proofs.Passing.{StandSoFar}
use Rattle.boc_sweep.proofs.passes.Passes.new.Given as goal

-- each cown so far has one that stands for it
abbrev pub invariant-loop-cown : goal.invariant-loop-cown
invariant-loop-cown l = StandSoFar l.rows l.cown l.cowns.items l.places.items l.idle
