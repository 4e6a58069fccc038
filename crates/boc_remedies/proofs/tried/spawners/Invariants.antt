use Rattle.std.proofs.Common.{◌≡◌, take}
use Rattle.std.specs.Prelude.{filter_map, slice_get}
use Rattle.boc_remedies.specs.Tried.{spawner_of}
use Rattle.boc_remedies.proofs.tried.spawners.Given as goal

-- the defs of the links so far
abbrev pub invariant-loop-share : goal.invariant-loop-share
invariant-loop-share l = l.defs.items ≡ filter_map (λ s. spawner_of (slice_get l.links s.key)) (take l.share-index l.by_link)
