use Rattle.std.proofs.Common.{◌≡◌, ℕ, ◌<◌, Bool, List, length, sym, ◌∙◌, subst, arith}
use Rattle.std.specs.Prelude.{slice_index}
use Rattle.std.specs.Vec.{with_item}
use Rattle.std.proofs.lemmas.List.{get_or_default}
use Rattle.boc_eager.specs.declared.place.Place.TheVariants.{BehindFor, FirstFor}
use Rattle.boc_eager.specs.Courses.{IsMissing}
use Rattle.boc_eager.specs.Lines.{Adds, IsJoined}
use Rattle.boc_eager.proofs.Leaving.{moves}
use Rattle.boc_eager.proofs.Lining.{comes_behind, comes_in_front}
use Rattle.boc_eager.proofs.Sets.{adds_pair}
use Rattle.boc_eager.proofs.Waiting.{comes_behind_queue, comes_first_queue, wait_low}
use Rattle.boc_eager.proofs.course.Course.start_or_wait.Goals.{In-Some}
use Rattle.boc_eager.proofs.course.Course.start_or_wait.Goals as goal

pub returns-in_ok-insert : goal.returns-in_ok-insert
returns-in_ok-insert c =
    let s = c.args.self.now in
    let rows = c.args.rows.now in
    let k = c.requires.hand.kept in
    let wait : ℕ = c.in-Some.wait in
    let missing = subst (λ (free : List ℕ). IsMissing rows c.args.row free s.tick wait) c.deref.ensures.value c.in-Some.ensures.missing in
    let there : wait < length s.queues.items = (let low = wait_low rows c.requires.shape c.args.row wait c.requires.hand.there missing.waits in
    omega (arith, low, k.queues_are.whole)) in
    let free : c.index-free.result.now ≡ slice_index s.free.items wait = c.index-free.ensures
    ∙ get_or_default s.free.items wait c.index-free.result.now 0 (omega (arith, there, k.queues_are.whole, k.free_are.whole)) in
    comes_first_queue rows c.requires.shape s c.args.row c.requires.hand c.requires.first wait missing (with_item s.queues wait c.join.new.self)
    (comes_in_front s.queues.items wait c.index_mut.result.now c.join.new.self there c.index_mut.ensures.value c.args.row
    (subst (λ (b : Bool). IsJoined c.index_mut.result.now c.join.new.self c.args.row b) c.if-branch.true c.in_ok-join.ensures))
    (with_item s.places c.args.row (FirstFor wait))
    (moves s.places.items c.args.row (FirstFor wait) (omega (arith, c.requires.hand.there, k.of_rows.places_whole))) c.insert.new.self
    (subst (λ (t : ℕ). Adds s.next.keys c.insert.new.self.keys (t, c.args.row)) free
    (subst (λ (keys : List (ℕ × ℕ)). Adds s.next.keys keys (c.index-free.result.now, c.args.row)) (sym c.in_ok-insert.ensures.keys)
    (adds_pair s.next.keys (c.index-free.result.now, c.args.row))))

pub returns-else-branch : goal.returns-else-branch
returns-else-branch c =
    let s = c.args.self.now in
    let rows = c.args.rows.now in
    let k = c.requires.hand.kept in
    let wait : ℕ = c.in-Some.wait in
    let missing = subst (λ (free : List ℕ). IsMissing rows c.args.row free s.tick wait) c.deref.ensures.value c.in-Some.ensures.missing in
    let there : wait < length s.queues.items = (let low = wait_low rows c.requires.shape c.args.row wait c.requires.hand.there missing.waits in
    omega (arith, low, k.queues_are.whole)) in
    comes_behind_queue rows c.requires.shape s c.args.row c.requires.hand c.requires.first wait missing (with_item s.queues wait c.join.new.self)
    (comes_behind s.queues.items wait c.index_mut.result.now c.join.new.self there c.index_mut.ensures.value c.args.row
    (subst (λ (b : Bool). IsJoined c.index_mut.result.now c.join.new.self c.args.row b) c.if-branch.false c.in_ok-join.ensures))
    (with_item s.places c.args.row (BehindFor wait))
    (moves s.places.items c.args.row (BehindFor wait) (omega (arith, c.requires.hand.there, k.of_rows.places_whole)))
