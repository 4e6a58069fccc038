use Rattle.boc_why.specs.Causes.{half_of}
use Rattle.boc_why.proofs.EarlierSpawns.{AreEarlierTo}
use Rattle.boc_why.proofs.causes.halve_offsets.Given as goal

-- the children so far are spawned after half as many ticks
abbrev pub invariant-loop-row : goal.invariant-loop-row
invariant-loop-row l = AreEarlierTo half_of l.fn.rows l.defs l.def l.row l.rows l.lasts.items
