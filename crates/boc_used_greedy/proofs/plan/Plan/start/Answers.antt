use Rattle.std.proofs.Common.{◌≡◌, List, length, refl, subst, sym, ap, arith}
use Rattle.std.specs.Vec.{with_items}
use Rattle.std.proofs.lemmas.List.{with_items_is}
use Rattle.boc_used_greedy.specs.declared.fronts.Front.{Front}
use Rattle.boc_used_greedy.specs.declared.plan.Plan.{Plan}
use Rattle.boc_used_greedy.specs.Fronts.{AreFronts, AreNewlyTold}
use Rattle.boc_used_greedy.proofs.Starting.{more_low, made_more}
use Rattle.boc_used_greedy.proofs.Within.{within_uses}
use Rattle.boc_used_greedy.proofs.plan.Plan.start.Goals as goal

pub queue_known-requires-clause-low : goal.queue_known-requires-clause-low
queue_known-requires-clause-low c =
    let rows = c.args.rows.now in
    let hr = c.requires.shape in
    let holds = c.args.holds.now.all.items in
    rw c.deref-2.ensures.value (more_low rows hr holds (within_uses rows hr holds c.requires.holds.are_uses) c.args.self.now c.args.row c.requires.next
    c.place.new.self c.place.ensures.placed c.requires.made.0 c.requires.made.1)

pub queue_known-requires-clause-rows : goal.queue_known-requires-clause-rows
queue_known-requires-clause-rows c = rw c.deref-4.ensures.value c.in_ok-note_children.ensures.rows

pub returns-clause-made : goal.returns-clause-made
returns-clause-made c = λ p m.
    let rows = c.args.rows.now in
    let hr = c.requires.shape in
    let holds = c.args.holds.now.all.items in
    let self = c.place.new.self in
    let new : Plan = record {
      starts = self.starts;
      workers = self.workers;
      fronts = with_items self.fronts c.take_on.new.fronts;
      free = self.free;
      waiting = c.queue_known.new.waiting;
      ready = self.ready;
      tick = self.tick;
    } in
    let has = c.in_ok-note_children.ensures.has in
    let fronts = rw c.deref.ensures.value at c.in_ok-take_on.ensures.fronts in
    let told = rw (c.deref.ensures.value, c.deref_mut.ensures.value, c.place.ensures.fronts) at c.in_ok-take_on.ensures.told in
    let queued = rw (c.deref-2.ensures.value, c.deref-4.ensures.value, c.place.ensures.waiting) at c.in_ok-queue_known.ensures in
    let list = c.note_children.new.list.items in
    let length_is : length c.take_on.new.fronts ≡ self.fronts.len =
    omega (arith, fronts.whole, m.fronts.whole, ap (length {A = Front}) c.place.ensures.fronts, self.fronts.ok.0) in
    let is : new.fronts.items ≡ c.take_on.new.fronts = with_items_is self.fronts c.take_on.new.fronts length_is in
    let new_fronts = subst (AreFronts rows holds self.starts.items) (sym is) fronts in
    let new_told : AreNewlyTold rows holds self.starts.items c.args.self.now.fronts.items new.fronts.items list =
    subst (λ (l : List Front). AreNewlyTold rows holds self.starts.items c.args.self.now.fronts.items l list) (sym is)
    (λ d x y was after b ge lt s. has b (told d x y was after b ge lt s)) in
    made_more rows hr holds (within_uses rows hr holds c.requires.holds.are_uses) c.args.self.now c.args.row c.requires.next self
    c.place.ensures.placed p m new refl refl refl c.place.ensures.placed.tick c.place.ensures.ready new_fronts list c.in_ok-note_children.ensures.children
    new_told queued
