use Rattle.std.specs.BinaryHeap.{heap_items}
use Rattle.boc_used_greedy.proofs.Telling.{AreQueuedTo}
use Rattle.boc_used_greedy.proofs.plan.queue_known.Given as goal

-- the first rows of the list have been looked at
abbrev pub invariant-loop-row : goal.invariant-loop-row
invariant-loop-row l = AreQueuedTo l.rows l.holds.all.items l.starts l.list (heap_items l.fn.waiting) l.row-index (heap_items l.waiting)
