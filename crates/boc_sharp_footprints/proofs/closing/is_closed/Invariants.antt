use Rattle.boc_sharp_footprints.proofs.SoFar.{KindsClosedBelow}
use Rattle.boc_sharp_footprints.proofs.closing.is_closed.Given as goal

abbrev pub invariant-loop-kind : goal.invariant-loop-kind
invariant-loop-kind l = KindsClosedBelow l.program l.table l.kind
