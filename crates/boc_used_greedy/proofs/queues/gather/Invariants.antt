use Rattle.std.proofs.Common.{ℕ, length}
use Rattle.std.specs.BinaryHeap.{heap_items}
use Rattle.boc_used_greedy.proofs.Heaps.{IsMoving}
use Rattle.boc_used_greedy.proofs.queues.gather.Given as goal

-- rows have gone from one queue to the other
abbrev pub invariant-loop-row : goal.invariant-loop-row
invariant-loop-row l = IsMoving l.tick (heap_items l.fn.waiting) (heap_items l.fn.ready) (heap_items l.waiting) (heap_items l.ready)

abbrev pub decreases-loop-row : goal.decreases-loop-row
decreases-loop-row l = length (heap_items l.waiting)
