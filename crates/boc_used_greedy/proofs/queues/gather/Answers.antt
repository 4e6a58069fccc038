use Rattle.boc_used_greedy.proofs.Heaps.{moving_more, moving_done}
use Rattle.boc_used_greedy.proofs.queues.gather.Goals as goal

pub loop-row-preserved : goal.loop-row-preserved
loop-row-preserved c = moving_more c.args.tick _ _ _ _ c.loop-row.invariant _ _ c.in-Some.row c.take_due.ensures.heap
    (c.in_ok-push.ensures.heap_order c.loop-row.invariant.ready_heap) c.take_due.ensures.was c.in-Some.ensures.taken c.in-Some.ensures.stays
    c.in_ok-push.ensures.permutation

pub returns : goal.returns
returns c = rw c.in_default.ensures.unchanged (moving_done c.args.tick _ _ _ _ c.loop-row.invariant c.in_default.ensures.none)
