use Rattle.std.proofs.Common.{List, ℕ, ◌+◌, sym, subst}
use Rattle.std.specs.BTreeMap as tree
use Rattle.std.specs.Ordering.{nat_cmp}
use Rattle.boc_why.proofs.LinkPlaces.{HasPlaces, places_more}
use Rattle.boc_why.proofs.links.first_places.Goals as goal

pub loop-place-preserved : goal.loop-place-preserved
loop-place-preserved c = subst (λ (firsts : List ℕ). HasPlaces c.args.codes.now (c.loop-place.place + 1) (tree.get nat_cmp c.first_seen.new.seen) firsts)
    (sym c.in_ok-push.ensures.items)
    (places_more c.args.codes.now c.loop-place.place c.loop-place-test.true (tree.get nat_cmp c.loop-place.seen) (tree.get nat_cmp c.first_seen.new.seen)
    c.loop-place.firsts.items c.in_ok-first_seen.field-0 c.loop-place.invariant c.in_ok-first_seen.ensures.first c.in_ok-first_seen.ensures.seen)
