use Rattle.std.proofs.Common.{ℕ, length, ap, arith}
use Rattle.std.specs.BinaryHeap.{heap_items}
use Rattle.boc_used_greedy.proofs.Taking.{take_queued, take_none_all, take_row}
use Rattle.boc_used_greedy.proofs.plan.Plan.take.Goals as goal

pub returns-clause-made : goal.returns-clause-made
returns-clause-made c = λ p m.
    let stays = rw c.deref.ensures.value at c.take_ready.ensures.stays in
    let none = rw c.deref.ensures.value at c.take_ready.ensures.none in
    record {
      greedy = m.greedy;
      free = m.free;
      coming = m.coming;
      fronts = m.fronts;
      queued = take_queued c.args.rows.now c.requires.shape c.args.holds.now.all.items _ _ _ _ m.queued c.take_ready.result _ c.take_ready.ensures.heap
          c.take_ready.ensures.was stays none;
      few = m.few;
      some = m.some;
    }

pub take_ready-requires-clause-rows : goal.take_ready-requires-clause-rows
take_ready-requires-clause-rows c = λ r i.
    let m = c.requires.made.1 in
    omega (arith, (m.queued.are_ready r i).0, m.greedy.whole, ap (length {A = ℕ}) c.deref.ensures.value)

pub returns-clause-row : goal.returns-clause-row
returns-clause-row c =
    let m = c.requires.made.1 in
    let waits = rw c.deref.ensures.value at c.take_ready.ensures.waits in
    let least = rw c.deref.ensures.value at c.take_ready.ensures.least in
    take_row c.args.rows.now c.requires.shape c.args.holds.now.all.items _ (heap_items c.args.self.now.waiting) (heap_items c.args.self.now.ready) m.queued
    c.requires.after c.requires.low c.take_ready.result c.take_ready.ensures.taken waits least

pub returns-clause-none : goal.returns-clause-none
returns-clause-none c =
    let m = c.requires.made.1 in
    let none = rw c.deref.ensures.value at c.take_ready.ensures.none in
    take_none_all c.args.rows.now c.requires.shape c.args.holds.now.all.items _ _ _ _ m.queued c.requires.after c.requires.low c.take_ready.result none
