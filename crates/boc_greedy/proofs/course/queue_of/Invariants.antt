use Rattle.std.specs.BinaryHeap.{heap_items}
use Rattle.boc_greedy.specs.Courses.{HoldsChanges}
use Rattle.boc_greedy.specs.Families.{times_of}
use Rattle.boc_greedy.proofs.course.queue_of.Given as goal

-- so far the rows that are under way stand in the queue
abbrev pub invariant-loop-row : goal.invariant-loop-row
invariant-loop-row l = HoldsChanges l.row l.states l.starts (times_of l.first) (heap_items l.queue)
