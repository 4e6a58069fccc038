-- A simulation that goes on with a row that takes other ticks.
use Rattle.std.proofs.Common.{◌≡◌, ℕ, ◌+◌, ◌<◌, List, length, sym, ◌∙◌, ap, inl, inr, arith}
use Rattle.std.specs.Prelude.{slice_index}
use Rattle.std.specs.BinaryHeap.{heap_items}
use Rattle.std.proofs.lemmas.Bool.{cases_lt}
use Rattle.std.proofs.lemmas.Option.{slice_get_within}
use Rattle.boc_runs.specs.declared.rows.Row.{Row}
use Rattle.boc_runs.specs.Rows.{offset_of, edited}
use Rattle.boc_runs.proofs.Editing.{length-edited}
use Rattle.boc_plans.specs.Plans.{start_of}
use Rattle.boc_plans.proofs.EditedOrder.{ordered_back}
use Rattle.boc_order.specs.Waits.{AreWaits}
use Rattle.boc_order.proofs.Placing.{same_back}
use Rattle.boc_order.proofs.Replacing.{edited_same, near_same}
use Rattle.boc_greedy.specs.declared.frontier.Frontier.{Frontier}
use Rattle.boc_greedy.specs.declared.frontier.RowState.{RowState}
use Rattle.boc_greedy.specs.declared.frontier.RowState.TheVariants.{UnderWay}
use Rattle.boc_greedy.specs.declared.simulation.Simulation.{Simulation}
use Rattle.boc_greedy.specs.Courses.{IsCopy, HoldsChanges}
use Rattle.boc_greedy.specs.Families.{IsTimed, AreTimed, AreNext, children_of, times_of}
use Rattle.boc_greedy.specs.Frontier.{IsFrontier}
use Rattle.boc_greedy.specs.Queues.{Entry, IsIn}
use Rattle.boc_greedy.specs.RowStates.{IsAt}
use Rattle.boc_greedy.specs.Simulating.{later, IsOn, IsBusy, AreLeft, HaveStates, Kept, HasPassed, steps_of_all}
use Rattle.boc_greedy.specs.Stepping.{IsGiving, IsSettled}
use Rattle.boc_greedy.proofs.Alike.{AreAlike, child_there, child_back, over_by, not_over, greedy_alike, given_alike, full_alike, counts_alike}

-- no row waits for others
pub waits_stay : (rows : List Row) (row ticks : ℕ) (waits : List (List ℕ)) → AreWaits rows waits → AreWaits (edited rows row ticks) waits
waits_stay rows row ticks waits are = record {
  whole = are.whole ∙ sym (length-edited rows row ticks);
  at = λ b there. (let own = are.at b (omega (arith, there, length-edited rows row ticks)) in record {
    sound = λ a has. near_same row (edited rows row ticks) rows a b (same_back row rows (edited rows row ticks) (edited_same rows row ticks)) (own.sound a has);
    complete = λ a near. own.complete a (near_same row rows (edited rows row ticks) a b (edited_same rows row ticks) near);
  });
}

-- the same rows can start
pub frontier_stays : (rows : List Row) (row ticks : ℕ) (f : Frontier) → IsFrontier rows f → IsFrontier (edited rows row ticks) f
frontier_stays rows row ticks f i = (
  i.0,
  record {
    in_turn = record {
      whole = i.1.in_turn.whole ∙ sym (length-edited rows row ticks);
      turns = λ r e a o. i.1.in_turn.turns r e a (ordered_back rows row ticks a r o);
      past = λ r e a o. i.1.in_turn.past r e a (ordered_back rows row ticks a r o);
    };
    are_waits = waits_stay rows row ticks i.0 i.1.are_waits;
    are_followers = i.1.are_followers;
    are_counted = i.1.are_counted;
    are_ready = i.1.are_ready;
  },
)

-- what is kept of rows is kept of others that are alike, with the queue made anew
module _ (rows others : List Row) (p end : ℕ) (starts workers : List ℕ) (states : List RowState) (first first' times' : List ℕ) (queue queue' : List Entry)
    (idle t : ℕ) (a : AreAlike rows others starts t) (k : Kept rows p end starts workers states first queue idle t) (passed : HasPassed queue t)
    (same : (r : ℕ) → slice_index first' r ≡ slice_index first r) (whole : length first' ≡ length first) (are_timed : AreTimed others first' times')
    (holds : HoldsChanges (length states) states starts times' queue') where
  h : HaveStates rows p end starts workers states first idle
  h = k.states_are

  there : (r : ℕ) (s : RowState) → IsAt states r s → r < length rows
  there r s e = omega (arith, slice_get_within states r s e, h.states_whole)

  left_there : (r : ℕ) → r < length others → AreLeft others states r (slice_index first' r)
  left_there r lt = rw (same r) (record {
    child_is = λ l. child_there rows others starts t a r (slice_index first r) (l_of.child_is (omega (arith, a.whole, l)));
    before = λ b c l e. l_of.before b (child_back rows others starts t a r b c) l e;
    after = λ b c ge. l_of.after b (child_back rows others starts t a r b c) ge;
  })
    where
      l_of : AreLeft rows states r (slice_index first r)
      l_of = h.left r (omega (arith, a.whole, lt))

  -- the next change of a row that is under way
  module _ (change r : ℕ) (i : IsIn queue' change r) where
    under_way : IsAt states r UnderWay
    under_way = (holds.only change r i).under_way

    timed : IsTimed others r (slice_index first' r) (slice_index times' r)
    timed = are_timed r (omega (arith, a.whole, there r UnderWay under_way))

    was_busy : IsBusy rows starts states t r (slice_index first r) (k.under_way r under_way).change
    was_busy = k.busy _ r (k.under_way r under_way).queued

    was_ahead : t < (k.under_way r under_way).change
    was_ahead = passed _ r (k.under_way r under_way).queued

    pub passed_there : t < change
    passed_there = elim (cases_lt (slice_index first' r) (length others)) [
      | inl l ↦ omega (
        arith,
        (holds.only change r i).change_is,
        timed.spawns l,
        a.offsets (slice_index first' r),
        ap (offset_of rows) (same r),
        was_busy.spawns (omega (arith, same r, a.whole, l)),
        was_ahead,
      )
      | inr ge ↦ omega (
        arith,
        (holds.only change r i).change_is,
        timed.ends ge,
        not_over rows others starts t a r (omega (arith, was_busy.ends (omega (arith, same r, a.whole, ge)), was_ahead)),
      )
    ]

    busy_there : IsBusy others starts states t r (slice_index first' r) change
    busy_there = record {
      under_way = under_way;
      ahead = omega (arith, passed_there);
      spawns = λ l. omega (arith, (holds.only change r i).change_is, timed.spawns l);
      ends = λ ge. omega (arith, (holds.only change r i).change_is, timed.ends ge);
    }

  on_there : (r : ℕ) → IsAt states r UnderWay → IsOn p starts workers queue' idle t r
  on_there r e = record {
    begun = (k.under_way r e).begun;
    below = (k.under_way r e).below;
    taken = (k.under_way r e).taken;
    change = start_of starts r + slice_index times' r;
    queued = holds.all r (slice_get_within states r UnderWay e) e;
  }

  pub kept_there : Kept others p end starts workers states first' queue' idle t
  kept_there = record {
    states_are = record {
      starts_whole = omega (arith, a.whole, h.starts_whole);
      workers_whole = omega (arith, a.whole, h.workers_whole);
      states_whole = omega (arith, a.whole, h.states_whole);
      first_whole = omega (arith, a.whole, whole, h.first_whole);
      few = h.few;
      unspawned = h.unspawned;
      not_main = h.not_main;
      waiting = h.waiting;
      all_spawned = λ x y c o e. h.all_spawned x y (child_back rows others starts t a x y c) o e;
      left = left_there;
      apart = h.apart;
      held = h.held;
      idle_below = h.idle_below;
    };
    early = k.early;
    under_way = on_there;
    over = λ r e. over_by rows others starts t a r t (omega arith) (k.over r e);
    spawned = λ x y c out. omega (arith, a.offsets y, k.spawned x y (child_back rows others starts t a x y c) out);
    busy = busy_there;
    greedy = λ u lt. greedy_alike rows others p starts workers t a u (omega (arith, lt)) (k.greedy u lt);
  }

module _ (rows others : List Row) (s fork : Simulation) (settled : IsSettled rows s) (a : AreAlike rows others s.starts.items s.tick)
    (frontier : IsFrontier others s.frontier) (copy : IsCopy s fork)
    (same : (r : ℕ) → slice_index (children_of fork.first.items) r ≡ slice_index (children_of s.first.items) r)
    (whole : length (children_of fork.first.items) ≡ length (children_of s.first.items))
    (are_timed : AreTimed others (children_of fork.first.items) (times_of fork.first.items))
    (are_next : AreNext others (children_of fork.next.now) (times_of fork.next.now))
    (holds : HoldsChanges (length s.frontier.states.items) s.frontier.states.items s.starts.items (times_of fork.first.items) (heap_items fork.queue)) where
  g : IsGiving rows s
  g = settled.giving

  pub settled_fork : IsSettled others fork
  settled_fork = record {
    giving = record {
      frontier = copy.frontier others frontier;
      kept = rw (copy.p, copy.starts, copy.workers, copy.states, copy.idle, copy.tick) (kept_there rows others s.p later s.starts.items s.workers.items
          s.frontier.states.items (children_of s.first.items) (children_of fork.first.items) (times_of fork.first.items) (heap_items s.queue)
          (heap_items fork.queue) s.idle s.tick a g.kept g.passed same whole are_timed holds);
      given = rw (copy.p, copy.starts, copy.workers, copy.states, copy.idle, copy.tick)
          (given_alike rows others s.p s.starts.items s.workers.items s.tick a s.frontier.states.items s.idle g.given);
      passed = rw copy.tick (passed_there rows others s.p later s.starts.items s.workers.items s.frontier.states.items (children_of s.first.items)
          (children_of fork.first.items) (times_of fork.first.items) (heap_items s.queue)
          (heap_items fork.queue) s.idle s.tick a g.kept g.passed same whole are_timed holds);
      are_timed = are_timed;
      are_next = are_next;
      queue = holds.is_queue;
      counted = rw (copy.starts, copy.tick, copy.moments) (record {
        all = counts_alike rows others s.p s.starts.items s.workers.items s.tick a s.moments g.counted.all;
        low = g.counted.low;
      });
      low = omega (arith, copy.tick, ap steps_of_all copy.states, g.low, a.whole);
    };
    full = rw (copy.states, copy.idle) (full_alike rows others s.p s.starts.items s.workers.items s.tick a s.frontier.states.items s.idle settled.full);
  }
