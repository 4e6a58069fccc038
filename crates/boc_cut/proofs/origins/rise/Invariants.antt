use Rattle.boc_cut.proofs.Rising.{Risen}
use Rattle.boc_cut.proofs.origins.rise.Given as goal

abbrev pub invariant-loop-place : goal.invariant-loop-place
invariant-loop-place l = Risen l.origins l.place l.last
