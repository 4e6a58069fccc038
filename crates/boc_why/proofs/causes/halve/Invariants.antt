use Rattle.boc_why.proofs.Halving.{AreTicksHalvedTo}
use Rattle.boc_why.proofs.causes.halve.Given as goal

-- the rows so far take half of the ticks
abbrev pub invariant-loop-row : goal.invariant-loop-row
invariant-loop-row l = AreTicksHalvedTo l.initial.rows l.defs l.def l.lasts.items l.row l.rows
