use Rattle.boc_why.proofs.EarlierSpawns.{AreEarlierTo}
use Rattle.boc_why.proofs.EarlySpawns.{at_once}
use Rattle.boc_why.proofs.causes.spawn_early.Given as goal

-- the rows so far spawn as early as they can
abbrev pub invariant-loop-row : goal.invariant-loop-row
invariant-loop-row l = AreEarlierTo at_once l.fn.rows l.defs l.def l.row l.rows l.lasts.items
