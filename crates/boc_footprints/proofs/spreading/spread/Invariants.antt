use Rattle.std.proofs.Common.{◌-◌, length}
use Rattle.boc_footprints.specs.Spreading.{marked}
use Rattle.boc_footprints.proofs.Rounds.{Spread}
use Rattle.boc_footprints.proofs.spreading.spread.Given as goal

abbrev pub invariant-rounds : goal.invariant-rounds
invariant-rounds l = Spread l.all l.initial.marks l.marks

abbrev pub decreases-rounds : goal.decreases-rounds
decreases-rounds l = length l.marks - marked l.marks
