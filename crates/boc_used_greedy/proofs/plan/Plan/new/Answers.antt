use Rattle.std.proofs.Common.{◌≡◌, [], ◌∷◌, length, replicate, rules, refl, arith}
use Rattle.std.specs.List.Sorted.{IsPermutation}
use Rattle.std.specs.BinaryHeap.{heap_items}
use Rattle.boc_greedy.specs.Simulating.{later}
use Rattle.boc_used_greedy.specs.declared.plan.Plan.{Plan}
use Rattle.boc_used_greedy.specs.Fronts.{AreFronts}
use Rattle.boc_used_greedy.proofs.Newly.{IsNew, new_made}
use Rattle.boc_used_greedy.proofs.plan.Plan.new.Goals as goal

pub returns-clause-made : goal.returns-clause-made
returns-clause-made c =
    let rows = c.args.rows.now in
    let holds = c.args.holds.now.all.items in
    let starts : c.in_ok-starts.starts.items ≡ replicate (length rows) later = search rules in
    let free : c.in_ok-vec-2.field-0.items ≡ replicate c.args.p 0 = search rules in
    let waiting : IsPermutation (record { 0 = (0, 0) } ∷ []) (heap_items c.push.new.self) =
    rw c.new-waiting.ensures.items at c.in_ok-push.ensures.permutation in
    let fronts : AreFronts rows holds c.in_ok-starts.starts.items c.in_ok-fronts.fronts.items = rw c.deref.ensures.value at c.in_ok-fronts.ensures in
    let plan : Plan =
    record {
      starts = c.in_ok-starts.starts;
      workers = c.in_ok-vec.field-0;
      fronts = c.in_ok-fronts.fronts;
      free = c.in_ok-vec-2.field-0;
      waiting = c.push.new.self;
      ready = c.new.result;
      tick = 0;
    } in
    let new : IsNew rows c.args.p plan =
    record {
      starts = starts;
      workers = omega (arith, c.in_ok-vec.ensures.len, c.in_ok-vec.field-0.ok.0, c.len-2.ensures.count);
      free = free;
      tick = refl;
      waiting_heap = c.in_ok-push.ensures.heap_order c.new-waiting.ensures.heap_order;
      ready_heap = c.new.ensures.heap_order;
      waiting = waiting;
      ready = c.new.ensures.items;
    } in
    new_made rows c.requires.shape holds c.args.p plan new fronts c.requires.few c.requires.some
