use Rattle.std.proofs.Common.{◌≡◌, map, take}
use Rattle.boc_reader.specs.Views.{name_of}
use Rattle.boc_reader.proofs.listing.names.Given as goal

abbrev pub invariant-loop-spot : goal.invariant-loop-spot
invariant-loop-spot l = l.all.items ≡ map name_of (take l.spot-index l.spots)
