use Rattle.std.proofs.Common.{inl, inr, ap, arith}
use Rattle.std.specs.BinaryHeap.{heap_items}
use Rattle.boc_plans.specs.Plans.{start_of}
use Rattle.boc_used_greedy.proofs.Heaps.{on_ready, taken_ready, TakenReady}
use Rattle.boc_used_greedy.proofs.plan.take_ready.Goals as goal

pub bounds-starts-row : goal.bounds-starts-row
bounds-starts-row c = c.requires.rows c.in-Some.row (c.loop-row.invariant.was c.in-Some.row (on_ready _ _ c.in-Some.ensures.top))

pub returns-then-starts-row-clause-was : goal.returns-then-starts-row-clause-was
returns-then-starts-row-clause-was c =
    let t : TakenReady (heap_items c.loop-row.ready) (heap_items c.pop.new.self) c.in-Some.row =
    taken_ready _ _ c.pop.result c.loop-row.ready.data.len c.in-Some.row c.in-Some.ensures.top (omega (arith, c.loop-row.ready.data.ok.0)) c.pop.ensures.top
    c.pop.ensures.permutation c.pop.ensures.heap_order c.pop.ensures.none in
    λ r i. c.loop-row.invariant.was r (t.was r i)

pub returns-then-starts-row-clause-stays : goal.returns-then-starts-row-clause-stays
returns-then-starts-row-clause-stays c =
    let t : TakenReady (heap_items c.loop-row.ready) (heap_items c.pop.new.self) c.in-Some.row =
    taken_ready _ _ c.pop.result c.loop-row.ready.data.len c.in-Some.row c.in-Some.ensures.top (omega (arith, c.loop-row.ready.data.ok.0)) c.pop.ensures.top
    c.pop.ensures.permutation c.pop.ensures.heap_order c.pop.ensures.none in
    λ r i e. t.stays r (c.loop-row.invariant.stays r i e)

pub loop-row-preserved : goal.loop-row-preserved
loop-row-preserved c =
    let t : TakenReady (heap_items c.loop-row.ready) (heap_items c.pop.new.self) c.in-Some.row =
    taken_ready _ _ c.pop.result c.loop-row.ready.data.len c.in-Some.row c.in-Some.ensures.top (omega (arith, c.loop-row.ready.data.ok.0)) c.pop.ensures.top
    c.pop.ensures.permutation c.pop.ensures.heap_order c.pop.ensures.none in
    record {
      heap = t.heap c.loop-row.invariant.heap;
      was = λ r i. c.loop-row.invariant.was r (t.was r i);
      stays = λ r i e. elim (t.stays r (c.loop-row.invariant.stays r i e)) [
        | inl same ↦ absurd (omega (arith, c.if-starts-row.false, ap (start_of c.args.starts.now) same, e))
        | inr still ↦ still
      ];
    }

pub returns-clause-none : goal.returns-clause-none
returns-clause-none c = λ r i e. c.in_default.ensures.none r (c.loop-row.invariant.stays r i e)
