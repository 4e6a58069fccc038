use Rattle.std.proofs.Common.{ℕ, List, sym, subst, arith}
use Rattle.std.specs.Vec.{with_item}
use Rattle.boc_eager.specs.declared.place.Place.TheVariants.{First, FirstFor}
use Rattle.boc_eager.specs.Lines.{Adds}
use Rattle.boc_eager.proofs.Asking.{goes_alone, goes_onward, wait_there}
use Rattle.boc_eager.proofs.Lining.{goes_from, goes_last}
use Rattle.boc_eager.proofs.Leaving.{moves}
use Rattle.boc_eager.proofs.Sets.{adds_pair}
use Rattle.boc_eager.proofs.course.Course.pass_on.Goals as goal

pub index_mut-requires-2 : goal.index_mut-requires-2
index_mut-requires-2 c =
    let there = wait_there c.args.rows.now c.requires.shape c.args.self.now c.args.row c.requires.hand c.args.wait c.requires.first in
    omega (arith, there, c.args.self.now.queues.ok.0)

pub index_mut-requires-in-Some : goal.index_mut-requires-in-Some
index_mut-requires-in-Some c =
    let s = c.args.self.now in
    let k = c.requires.hand.kept in
    let there = wait_there c.args.rows.now c.requires.shape s c.args.row c.requires.hand c.args.wait c.requires.first in
    let g = goes_from s.queues.items c.args.wait c.index_mut-2.result.now c.leave.new.self there c.index_mut-2.ensures.value c.args.row c.in-Some.next
    c.in-Some.ensures.some in
    omega (arith, (k.queues_are.behind _ _ g.was_behind).0, k.of_rows.places_whole, s.places.ok.0)

pub returns-in_ok-insert : goal.returns-in_ok-insert
returns-in_ok-insert c =
    let s = c.args.self.now in
    let k = c.requires.hand.kept in
    let there = wait_there c.args.rows.now c.requires.shape s c.args.row c.requires.hand c.args.wait c.requires.first in
    let g = goes_from s.queues.items c.args.wait c.index_mut-2.result.now c.leave.new.self there c.index_mut-2.ensures.value c.args.row c.in-Some.next
    c.in-Some.ensures.some in
    let own = moves s.places.items c.args.row First (omega (arith, c.requires.hand.there, k.of_rows.places_whole)) in
    goes_onward c.args.rows.now c.requires.shape s c.args.row c.requires.hand c.args.wait c.requires.first c.in-Some.next
    (with_item s.queues c.args.wait c.leave.new.self) g _ own (with_item (with_item s.places c.args.row First) c.in-Some.next (FirstFor c.args.wait))
    (moves _ c.in-Some.next (FirstFor c.args.wait) (omega (arith, (k.queues_are.behind _ _ g.was_behind).0, k.of_rows.places_whole, own.whole)))
    c.insert.new.self
    (subst (λ (keys : List (ℕ × ℕ)). Adds s.next.keys keys (s.tick, c.in-Some.next)) (sym c.in_ok-insert.ensures.keys)
    (adds_pair s.next.keys (s.tick, c.in-Some.next)))

pub returns-in_default : goal.returns-in_default
returns-in_default c =
    let s = c.args.self.now in
    let there = wait_there c.args.rows.now c.requires.shape s c.args.row c.requires.hand c.args.wait c.requires.first in
    goes_alone c.args.rows.now c.requires.shape s c.args.row c.requires.hand c.args.wait c.requires.first (with_item s.queues c.args.wait c.leave.new.self)
    (goes_last s.queues.items c.args.wait c.index_mut-2.result.now c.leave.new.self there c.index_mut-2.ensures.value c.args.row c.in_default.ensures.none)
    (with_item s.places c.args.row First)
    (moves s.places.items c.args.row First (omega (arith, c.requires.hand.there, c.requires.hand.kept.of_rows.places_whole)))
