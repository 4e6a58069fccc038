use Rattle.std.proofs.Common.{◌≡◌, ◌≢◌, ℕ, ◌+◌, ◌<◌, ◌≤◌, length, arith}
use Rattle.std.specs.Prelude.{slice_index}
use Rattle.std.specs.BinaryHeap.{heap_items}
use Rattle.std.proofs.lemmas.List.{length-map}
use Rattle.boc_runs.specs.Rows.{offset_of, ticks_of}
use Rattle.boc_greedy.specs.declared.frontier.RowState.TheVariants.{Waiting, UnderWay}
use Rattle.boc_greedy.specs.Families.{children_of}
use Rattle.boc_greedy.specs.RowStates.{CanStart}
use Rattle.boc_greedy.specs.Queues.{IsIn}
use Rattle.boc_greedy.specs.Simulating.{later}
use Rattle.boc_greedy.proofs.Puts.{puts, changes_state, weight_set, not_same}
use Rattle.boc_greedy.proofs.Timing.{time_at, timed_low}
use Rattle.boc_greedy.proofs.Queued.{none_counts, pushed}
use Rattle.boc_greedy.proofs.Standing.{there}
use Rattle.boc_greedy.proofs.Giving.{agree, kept_after, passed_after, given_after}
use Rattle.boc_greedy.proofs.Counting.{counts_given}
use Rattle.boc_greedy.proofs.simulation.Simulation.give.Goals as goal

pub overflow_add-tick : goal.overflow_add-tick
overflow_add-tick c =
    let g = c.requires.giving in
    let s = c.args.self.now in
    let x : ℕ = c.in-Some.row in
    let h : x < length c.args.rows.now = there _ c.requires.shape _ _ _ _ _ _ _ _ _ g.kept x Waiting c.in-Some.ensures.can.waits in
    let time = time_at s.first.items x c.index-change.result.now (omega (arith, h, simp length-map at g.kept.states_are.first_whole))
    c.index-change.ensures in
    omega (arith, time, timed_low _ c.requires.shape x _ _ h (g.are_timed x h), g.kept.early, c.from.ensures)

pub returns-in_ok-push-in-Some-clause-giving : goal.returns-in_ok-push-in-Some-clause-giving
returns-in_ok-push-in-Some-clause-giving c =
    let shape = c.requires.shape in
    let g = c.requires.giving in
    let k = g.kept in
    let s = c.args.self.now in
    let x : ℕ = c.in-Some.row in
    let w : ℕ = c.args.worker in
    let can : CanStart c.args.rows.now s.frontier.states.items x = c.in-Some.ensures.can in
    let h : x < length c.args.rows.now = there _ shape _ _ _ _ _ _ _ _ _ k x Waiting can.waits in
    let listed : x < length s.first.items = omega (arith, h, simp length-map at k.states_are.first_whole) in
    let time = time_at s.first.items x c.index-change.result.now listed c.index-change.ensures in
    let timed = g.are_timed x h in
    let ps = puts s.starts.items x s.tick (omega (arith, h, k.states_are.starts_whole)) in
    let pw = puts s.workers.items x w (omega (arith, h, k.states_are.workers_whole)) in
    let sg = changes_state s.frontier.states.items c.start_least.new.self.states.items x UnderWay (omega (arith, h, k.states_are.states_whole))
    c.in-Some.ensures.states in
    let none : (change q : ℕ) → IsIn (heap_items s.queue) change q → q ≢ x =
    λ change q i. not_same _ x Waiting can.waits q UnderWay (λ d. (cc)) (k.busy change q i).under_way in
    let pq = pushed _ _ (s.tick + c.from.result) x g.queue.once (none_counts _ x none) (c.in_ok-push-in-Some.ensures.heap_order g.queue.ordered)
    c.in_ok-push-in-Some.ensures.permutation in
    let idle = c.requires.idle in
    let child : ℕ = slice_index (children_of s.first.items) x in
    let spawns : child < length c.args.rows.now → s.tick + c.from.result ≡ s.tick + offset_of c.args.rows.now child =
    λ l. omega (arith, timed.spawns l, time, c.from.ensures) in
    let ends : length c.args.rows.now ≤ child → s.tick + c.from.result ≡ s.tick + ticks_of c.args.rows.now x =
    λ ge. omega (arith, timed.ends ge, time, c.from.ensures) in
    record {
      frontier = c.in-Some.ensures.kept;
      kept = kept_after _ shape _ later _ _ _ _ _ _ _ k x w _ _ _ _ _ _ ps pw sg pq can idle.set c.without_bit-self.ensures.cleared
          c.without_bit-self.ensures.others spawns ends;
      given = given_after _ shape _ later _ _ _ _ _ _ _ k x w _ _ _ _ _ _ ps pw sg pq can idle.set c.without_bit-self.ensures.cleared
          c.without_bit-self.ensures.others spawns ends
          g.given c.in-Some.ensures.least idle.least;
      passed = passed_after _ shape _ later _ _ _ _ _ _ _ k x w _ _ _ _ _ _ ps pw sg pq can idle.set c.without_bit-self.ensures.cleared
          c.without_bit-self.ensures.others spawns ends g.passed;
      are_timed = g.are_timed;
      are_next = g.are_next;
      queue = pq.is_queue;
      counted = record {
        all = counts_given _ shape _ _ _ _ _ (agree _ shape _ later _ _ _ _ _ _ _ k x w _ _ _ _ _ _ ps pw sg pq can idle.set c.without_bit-self.ensures.cleared
            c.without_bit-self.ensures.others spawns ends)
            _ g.counted.all;
        low = g.counted.low;
      };
      low = omega (arith, weight_set s.frontier.states.items c.start_least.new.self.states.items x Waiting UnderWay can.waits c.in-Some.ensures.states, g.low);
    }

pub returns-in_ok-push-in-Some-clause-fewer : goal.returns-in_ok-push-in-Some-clause-fewer
returns-in_ok-push-in-Some-clause-fewer c = λ e.
    (let can : CanStart c.args.rows.now c.args.self.now.frontier.states.items c.in-Some.row = c.in-Some.ensures.can in
    omega (
      arith,
      weight_set c.args.self.now.frontier.states.items c.start_least.new.self.states.items c.in-Some.row Waiting UnderWay can.waits
          c.in-Some.ensures.states,
    ))
