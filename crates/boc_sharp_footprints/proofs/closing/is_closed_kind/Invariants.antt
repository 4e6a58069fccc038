use Rattle.boc_sharp_footprints.proofs.SoFar.{ClosedBelow}
use Rattle.boc_sharp_footprints.proofs.closing.is_closed_kind.Given as goal

abbrev pub invariant-loop-value : goal.invariant-loop-value
invariant-loop-value l = ClosedBelow l.table l.body l.kind l.value
