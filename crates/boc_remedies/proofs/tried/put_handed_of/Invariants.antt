use Rattle.std.proofs.Common.{◌≡◌, take}
use Rattle.std.specs.Prelude.{flat_map, slice_get}
use Rattle.boc_remedies.specs.Families.{joined}
use Rattle.boc_remedies.specs.Tried.{handed_by}
use Rattle.boc_remedies.proofs.tried.put_handed_of.Given as goal

-- the families that the links so far hand on are in the set
abbrev pub invariant-loop-share : goal.invariant-loop-share
invariant-loop-share l = l.set ≡ joined l.fn.set (flat_map (λ s. handed_by l.families (slice_get l.route.links.now s.key)) (take l.share-index l.route.by_link.now))
