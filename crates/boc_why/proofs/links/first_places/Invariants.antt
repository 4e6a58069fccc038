use Rattle.std.specs.BTreeMap as tree
use Rattle.std.specs.Ordering.{nat_cmp}
use Rattle.boc_why.proofs.LinkPlaces.{HasPlaces}
use Rattle.boc_why.proofs.links.first_places.Given as goal

-- the first places of the numbers so far
abbrev pub invariant-loop-place : goal.invariant-loop-place
invariant-loop-place l = HasPlaces l.codes l.place (tree.get nat_cmp l.seen) l.firsts.items
