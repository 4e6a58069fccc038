use Rattle.boc_footprints.proofs.Tabled.{IsTable}
use Rattle.boc_footprints.proofs.table.footprints_of.Given as goal

abbrev pub invariant-loop-cown : goal.invariant-loop-cown
invariant-loop-cown l = IsTable l.spawns.items l.bodies l.cown l.cowns.items
