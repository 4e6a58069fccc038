use Rattle.boc_dispatch.specs.Told.{ArePlaced}
use Rattle.boc_dispatch.proofs.told.places_of.Given as goal

abbrev pub invariant-loop-place : goal.invariant-loop-place
invariant-loop-place l = ArePlaced l.told l.place l.count l.places.items
