use Rattle.std.proofs.Common.{arith}
use Rattle.std.specs.BinaryHeap.{heap_items}
use Rattle.boc_used_greedy.proofs.Heaps.{taken, Taken}
use Rattle.boc_used_greedy.proofs.queues.take_due.Goals as goal

pub returns-in_err-due-clause-none : goal.returns-in_err-due-clause-none
returns-in_err-due-clause-none c = rw c.from_residual.ensures (λ due r i. absurd (c.in_err-due.ensures.none due r i))

pub returns-then-due-tick-clause-none : goal.returns-then-due-tick-clause-none
returns-then-due-tick-clause-none c = λ due r i. omega (arith, c.if-due-tick.true, c.in_ok-due.ensures.least due r i)

pub returns-clause-was : goal.returns-clause-was
returns-clause-was c =
    let t : Taken (heap_items c.args.waiting.now) (heap_items c.pop.new.self) c.in_ok-due.row =
    taken _ _ c.pop.result c.args.waiting.now.data.len c.in_ok-due.due c.in_ok-due.row c.in_ok-due.ensures.top
    (omega (arith, c.args.waiting.now.data.ok.0)) c.pop.ensures.top c.pop.ensures.permutation c.pop.ensures.none in
    t.was

pub returns-clause-stays : goal.returns-clause-stays
returns-clause-stays c =
    let t : Taken (heap_items c.args.waiting.now) (heap_items c.pop.new.self) c.in_ok-due.row =
    taken _ _ c.pop.result c.args.waiting.now.data.len c.in_ok-due.due c.in_ok-due.row c.in_ok-due.ensures.top
    (omega (arith, c.args.waiting.now.data.ok.0)) c.pop.ensures.top c.pop.ensures.permutation c.pop.ensures.none in
    t.stays
