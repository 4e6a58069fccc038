use Rattle.std.proofs.Common.{◌≡◌, drop}
use Rattle.std.specs.List.{list_any}
use Rattle.boc_footprints.specs.Tables.{reaches}
use Rattle.boc_footprints.proofs.table.Footprints.meets.Given as goal

abbrev pub invariant-loop-cown : goal.invariant-loop-cown
invariant-loop-cown l = list_any (reaches l.self l.kind) (drop l.cown-index l.cowns) ≡ list_any (reaches l.self l.kind) l.cowns
