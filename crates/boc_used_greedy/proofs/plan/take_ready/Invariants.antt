use Rattle.std.proofs.Common.{◌≡◌, ℕ, length}
use Rattle.std.specs.BinaryHeap.{heap_items, IsHeap}
use Rattle.boc_plans.specs.Plans.{start_of}
use Rattle.boc_greedy.specs.Simulating.{later}
use Rattle.boc_used_greedy.specs.Plans.{IsReady, row_order}
use Rattle.boc_used_greedy.proofs.plan.take_ready.Given as goal

-- only rows that have started are taken out so far
abbrev pub invariant-loop-row : goal.invariant-loop-row
invariant-loop-row l = record {
  heap : IsHeap row_order (heap_items l.ready);
  was : (r : ℕ) → IsReady (heap_items l.ready) r → IsReady (heap_items l.fn.ready) r;
  stays : (r : ℕ) → IsReady (heap_items l.fn.ready) r → start_of l.starts r ≡ later → IsReady (heap_items l.ready) r;
}

abbrev pub decreases-loop-row : goal.decreases-loop-row
decreases-loop-row l = length (heap_items l.ready)
