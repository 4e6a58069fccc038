use Rattle.std.proofs.Common.{◌≡◌, drop}
use Rattle.boc_sharp_footprints.specs.Tables.{holds_all}
use Rattle.boc_sharp_footprints.proofs.table.holds_all.Given as goal

abbrev pub invariant-loop-cown : goal.invariant-loop-cown
invariant-loop-cown l = holds_all l.other l.cown (drop l.cown l.set) ≡ holds_all l.other 0 l.set
