use Rattle.boc_dispatch.specs.Driving.{IsAt}
use Rattle.boc_dispatch.proofs.interleaving.play.Given as goal

abbrev pub invariant-loop-place : goal.invariant-loop-place
invariant-loop-place g l = IsAt l.program l.workers l.choices l.place l.core l.crew.items
