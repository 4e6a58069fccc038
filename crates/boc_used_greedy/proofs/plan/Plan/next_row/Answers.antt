use Rattle.std.proofs.Common.{◌≡◌, ◌⊎◌, inl, inr, ◌∙◌, ℕ, ◌+◌, ◌^◌, ◌<◌, ◌≤◌, Some, None, sym, subst, ap, arith}
use Rattle.std.specs.Prelude.{slice_index}
use Rattle.std.specs.BinaryHeap.{heap_items}
use Rattle.boc_greedy.specs.Queues.{IsIn}
use Rattle.boc_greedy.specs.Simulating.{later}
use Rattle.boc_greedy.proofs.Queued.{on_top}
use Rattle.boc_used_greedy.specs.Plans.{IsMade, NotStarted}
use Rattle.boc_used_greedy.proofs.Moving.{none_between, none_at_all}
use Rattle.boc_used_greedy.proofs.Starting.{low_tick}
use Rattle.boc_used_greedy.proofs.Next.{least_soon, idle_first, due_low, next_start, some_map, none_map}
use Rattle.boc_used_greedy.proofs.Within.{within_uses}
use Rattle.boc_used_greedy.proofs.plan.Plan.next_row.Goals as goal

pub go_to-requires-clause-idle : goal.go_to-requires-clause-idle
go_to-requires-clause-idle c =
    let rows = c.args.rows.now in
    let hr = c.requires.shape in
    let holds = c.args.holds.now.all.items in
    let self = c.args.self.now in
    let least = rw c.deref.ensures.value at c.least_of.ensures.least in
    let there = rw c.deref.ensures.value at c.least_of.ensures.there in
    idle_first rows hr holds (within_uses rows hr holds c.requires.holds.are_uses) c.requires.made.0 self c.requires.made.1 c.requires.low
    c.least_of.result c.max-tick.result least there c.max-tick.ensures

pub take-requires-clause-made : goal.take-requires-clause-made
take-requires-clause-made c = (c.requires.made.0, c.in_ok-go_to.ensures.made c.requires.made.0 c.requires.made.1)

pub take-requires-clause-after : goal.take-requires-clause-after
take-requires-clause-after c = λ due r i. omega (arith, c.in_ok-go_to.ensures.after due r i, c.in_ok-go_to.ensures.tick)

pub returns-in-Some-clause-next : goal.returns-in-Some-clause-next
returns-in-Some-clause-next c = λ p m. c.in-Some.ensures.made p (c.in_ok-go_to.ensures.made p m)

pub returns-in-Some-clause-row : goal.returns-in-Some-clause-row
returns-in-Some-clause-row c =
    let rows = c.args.rows.now in
    let hr = c.requires.shape in
    let holds = c.args.holds.now.all.items in
    let self = c.args.self.now in
    let within = within_uses rows hr holds c.requires.holds.are_uses in
    let there = rw c.deref.ensures.value at c.least_of.ensures.there in
    let soon = least_soon rows hr holds within c.requires.made.0 self c.requires.made.1 c.requires.low c.least_of.result there in
    next_start rows hr holds within c.requires.made.0 self c.requires.made.1 c.requires.low c.take.new.self c.in-Some.row there.0
    (c.in-Some.ensures.starts ∙ c.in_ok-go_to.ensures.starts) (c.in-Some.ensures.free ∙ c.in_ok-go_to.ensures.free) c.in-Some.ensures.row
    (λ due r i. (
    let j = rw c.in-Some.ensures.waiting at i in
    omega (arith, c.in_ok-go_to.ensures.after due r j, c.in-Some.ensures.tick, c.in_ok-go_to.ensures.tick))) there.1
    (omega (arith, there.2, c.max-tick.ensures, c.in-Some.ensures.tick, c.in_ok-go_to.ensures.tick))
    (omega (arith, soon, c.max-tick.ensures, c.in-Some.ensures.tick, c.in_ok-go_to.ensures.tick))

pub next_due-requires : goal.next_due-requires
next_due-requires c =
    let m = c.in_ok-go_to.ensures.made c.requires.made.0 c.requires.made.1 in
    rw c.in_default.ensures.waiting m.queued.waiting_heap

pub go_to-requires-in-Some-next_due-clause-made : goal.go_to-requires-in-Some-next_due-clause-made
go_to-requires-in-Some-next_due-clause-made c =
    (c.requires.made.0, c.in_default.ensures.made c.requires.made.0 (c.in_ok-go_to.ensures.made c.requires.made.0 c.requires.made.1))

pub go_to-requires-in-Some-next_due-clause-next : goal.go_to-requires-in-Some-next_due-clause-next
go_to-requires-in-Some-next_due-clause-next c =
    let i = on_top _ _ _ c.in-Some-next_due.ensures.top in
    let j = rw c.in_default.ensures.waiting at i in
    omega (arith, c.in_ok-go_to.ensures.after _ _ j, c.in_default.ensures.tick, c.in_ok-go_to.ensures.tick)

pub go_to-requires-in-Some-next_due-clause-idle : goal.go_to-requires-in-Some-next_due-clause-idle
go_to-requires-in-Some-next_due-clause-idle c =
    let rows = c.args.rows.now in
    let hr = c.requires.shape in
    let holds = c.args.holds.now.all.items in
    let self = c.args.self.now in
    let p = c.requires.made.0 in
    let within = within_uses rows hr holds c.requires.holds.are_uses in
    let m = c.in_default.ensures.made p (c.in_ok-go_to.ensures.made p c.requires.made.1) in
    let there = rw c.deref.ensures.value at c.least_of.ensures.there in
    let soon = least_soon rows hr holds within p self c.requires.made.1 c.requires.low c.least_of.result there in
    let low = low_tick rows hr self.starts.items self.tick c.requires.low in
    let i = on_top _ _ _ c.in-Some-next_due.ensures.top in
    let small = (m.queued.waits _ _ i).2 in
    record {
      before = omega (arith, small);
      idle = λ t ge lt. inr (λ b. none_between rows hr holds within p _ _ _ m.greedy
          (omega (arith, soon, low, c.max-tick.ensures, c.in_default.ensures.tick, c.in_ok-go_to.ensures.tick)) _ _ _ m.queued small
          c.in-Some-next_due.ensures.least c.in_default.ensures.none t b lt);
    }

pub take-requires-in-Some-next_due-clause-made : goal.take-requires-in-Some-next_due-clause-made
take-requires-in-Some-next_due-clause-made c = (
  c.requires.made.0,
  c.in_ok-go_to-in-Some-next_due.ensures.made c.requires.made.0
      (c.in_default.ensures.made c.requires.made.0 (c.in_ok-go_to.ensures.made c.requires.made.0 c.requires.made.1)),
)

pub take-requires-in-Some-next_due-clause-after : goal.take-requires-in-Some-next_due-clause-after
take-requires-in-Some-next_due-clause-after c = λ due r i.
    omega (arith, c.in_ok-go_to-in-Some-next_due.ensures.after due r i, c.in_ok-go_to-in-Some-next_due.ensures.tick)

pub take-requires-in-Some-next_due-clause-low : goal.take-requires-in-Some-next_due-clause-low
take-requires-in-Some-next_due-clause-low c =
    let m = c.in_default.ensures.made c.requires.made.0 (c.in_ok-go_to.ensures.made c.requires.made.0 c.requires.made.1) in
    let i = on_top _ _ _ c.in-Some-next_due.ensures.top in
    omega (arith, (m.queued.waits _ _ i).2, c.in_ok-go_to-in-Some-next_due.ensures.tick)

pub returns-in-None-clause-next : goal.returns-in-None-clause-next
returns-in-None-clause-next c = λ p m. c.in_default.ensures.made p (c.in_ok-go_to.ensures.made p m)

pub returns-in-None-clause-none : goal.returns-in-None-clause-none
returns-in-None-clause-none c =
    let rows = c.args.rows.now in
    let hr = c.requires.shape in
    let holds = c.args.holds.now.all.items in
    let self = c.args.self.now in
    let p = c.requires.made.0 in
    let within = within_uses rows hr holds c.requires.holds.are_uses in
    let m = c.in_default.ensures.made p (c.in_ok-go_to.ensures.made p c.requires.made.1) in
    let there = rw c.deref.ensures.value at c.least_of.ensures.there in
    let soon = least_soon rows hr holds within p self c.requires.made.1 c.requires.low c.least_of.result there in
    let low = low_tick rows hr self.starts.items self.tick c.requires.low in
    none_at_all rows hr holds within p _ _ _ m.greedy
    (omega (arith, soon, low, c.max-tick.ensures, c.in_default.ensures.tick, c.in_ok-go_to.ensures.tick)) _ _ m.queued c.in-None.ensures.none
    c.in_default.ensures.none

pub returns-in_ok-go_to-in-Some-next_due-clause-next : goal.returns-in_ok-go_to-in-Some-next_due-clause-next
returns-in_ok-go_to-in-Some-next_due-clause-next c = λ p m. c.take-in-Some-next_due.ensures.made p
    (c.in_ok-go_to-in-Some-next_due.ensures.made p (c.in_default.ensures.made p (c.in_ok-go_to.ensures.made p m)))

pub returns-in_ok-go_to-in-Some-next_due-clause-row : goal.returns-in_ok-go_to-in-Some-next_due-clause-row
returns-in_ok-go_to-in-Some-next_due-clause-row c =
    let rows = c.args.rows.now in
    let hr = c.requires.shape in
    let holds = c.args.holds.now.all.items in
    let self = c.args.self.now in
    let p = c.requires.made.0 in
    let within = within_uses rows hr holds c.requires.holds.are_uses in
    let m = c.in_default.ensures.made p (c.in_ok-go_to.ensures.made p c.requires.made.1) in
    let there = rw c.deref.ensures.value at c.least_of.ensures.there in
    let g = c.in_ok-go_to-in-Some-next_due.ensures in
    let t = c.take-in-Some-next_due.ensures in
    let i = on_top _ _ _ c.in-Some-next_due.ensures.top in
    let j = rw c.in_default.ensures.waiting at i in
    let first = c.in_ok-go_to.ensures.after _ _ j in
    let starts = c.in_default.ensures.starts ∙ c.in_ok-go_to.ensures.starts in
    let w = rw starts at (m.queued.waits _ _ i) in
    let soon = due_low rows hr holds within p self c.requires.made.1 c.requires.low _ _ w.0 w.1 w.2 in
    some_map c.take-in-Some-next_due.result _ _ (λ row is. next_start rows hr holds within p self c.requires.made.1 c.requires.low
    c.take-in-Some-next_due.new.self row there.0 (t.starts ∙ (g.starts ∙ starts)) (t.free ∙ (g.free ∙ (c.in_default.ensures.free ∙ c.in_ok-go_to.ensures.free)))
    is (λ due r k. (let l = rw t.waiting at k in omega (arith, g.after due r l, t.tick, g.tick))) there.1
    (omega (arith, there.2, c.max-tick.ensures, first, t.tick, g.tick)) (omega (arith, soon, t.tick, g.tick))) t.row

pub returns-in_ok-go_to-in-Some-next_due-clause-none : goal.returns-in_ok-go_to-in-Some-next_due-clause-none
returns-in_ok-go_to-in-Some-next_due-clause-none c =
    let p = c.requires.made.0 in
    let m = c.in_default.ensures.made p (c.in_ok-go_to.ensures.made p c.requires.made.1) in
    let g = c.in_ok-go_to-in-Some-next_due.ensures in
    let t = c.take-in-Some-next_due.ensures in
    let i = on_top _ _ _ c.in-Some-next_due.ensures.top in
    let w = m.queued.waits _ _ i in
    let tick = t.tick ∙ g.tick in
    none_map c.take-in-Some-next_due.result _ _ (λ f r not. f c.in-Some-next_due.field-0-1 (rw (t.starts, g.starts) w.0)
    (rw (t.starts, g.starts, tick) w.1.ready)) t.none
