use Rattle.std.proofs.Common.{◌≡◌, [], take}
use Rattle.std.specs.Prelude.{filter_map}
use Rattle.std.specs.List.{fold}
use Rattle.boc_remedies.specs.LinkSets.{kept_with, weighed_at}
use Rattle.boc_remedies.proofs.link_sets.heaviest.Given as goal

-- the heaviest of the sets so far
abbrev pub invariant-loop-share : goal.invariant-loop-share
invariant-loop-share l = l.best.items ≡ fold kept_with [] (filter_map (weighed_at l.families l.links) (take l.share-index l.by_set))
