-- The row on top of the queue, for which something changes at this tick.
use Rattle.std.proofs.Common.{◌≡◌, ℕ, ◌+◌, ◌<◌, ◌≤◌, List, length, get_or, ◌∙◌, arith}
use Rattle.std.specs.Prelude.{slice_index}
use Rattle.std.specs.BinaryHeap.{heap_items}
use Rattle.std.proofs.lemmas.List.{length-map, get_or_default}
use Rattle.boc_program.specs.declared.limits.TheConstants.{MOST_TICKS}
use Rattle.boc_runs.specs.declared.rows.Row.{Row}
use Rattle.boc_runs.specs.Rows.{IsRows, parent_of}
use Rattle.boc_plans.specs.Plans.{start_of, IsChild}
use Rattle.boc_greedy.specs.declared.simulation.Simulation.{Simulation}
use Rattle.boc_greedy.specs.declared.frontier.RowState.TheVariants.{Unspawned, UnderWay}
use Rattle.boc_greedy.specs.RowStates.{IsAt}
use Rattle.boc_greedy.specs.declared.children.Change.{Change}
use Rattle.boc_greedy.specs.Families.{IsNextChild, IsTimed, children_of}
use Rattle.boc_greedy.specs.Queues.{IsIn, IsOnTop}
use Rattle.boc_greedy.specs.Simulating.{later}
use Rattle.boc_greedy.specs.Stepping.{IsStepping}
use Rattle.boc_greedy.proofs.Queued.{on_top}
use Rattle.boc_greedy.proofs.Timing.{child_at, time_at, timed_rise}
use Rattle.boc_greedy.proofs.Standing.{there}

-- what is known of that row and its next child
pub record IsDue (rows : List Row) (s : Simulation) (r : ℕ) : Type 0 where
  pub due : IsIn (heap_items s.queue) s.tick r
  pub there : r < length rows
  pub under_way : IsAt s.frontier.states.items r UnderWay
  pub early : start_of s.starts.items r + MOST_TICKS < later
  pub listed : r < length s.first.items
  pub unspawned : slice_index (children_of s.first.items) r < length rows
      → IsAt s.frontier.states.items (slice_index (children_of s.first.items) r) Unspawned

pub is_due : (rows : List Row) → IsRows rows → (s : Simulation) (r : ℕ) → IsStepping rows s → IsOnTop (heap_items s.queue) s.tick r → IsDue rows s r
is_due rows hr s r i top =
    let k = i.kept in
    let due = on_top _ _ _ top in
    let on = (k.busy s.tick r due).under_way in
    let h : r < length rows = there _ hr _ _ _ _ _ _ _ _ _ k r UnderWay on in
    record {
      due = due;
      there = h;
      under_way = on;
      early = omega (arith, (k.under_way r on).begun, k.early);
      listed = omega (arith, h, simp length-map at k.states_are.first_whole);
      unspawned = λ l. (k.states_are.left r h).after _ ((k.states_are.left r h).child_is l) (omega arith);
    }

-- where that row spawns a child, what comes after that
pub record IsSpawning (rows : List Row) (s : Simulation) (r : ℕ) (change next : Change) : Type 0 where
  pub child : slice_index (children_of s.first.items) r ≡ change.child
  pub is_child : IsChild rows r change.child
  pub next_child : IsNextChild rows (parent_of rows change.child) (change.child + 1) next.child
  pub timed : IsTimed rows r next.child next.after
  pub rises : change.after ≤ next.after
  pub now : s.tick ≡ start_of s.starts.items r + change.after

module _ (rows : List Row) (hr : IsRows rows) (s : Simulation) (r : ℕ) (i : IsStepping rows s) (top : IsOnTop (heap_items s.queue) s.tick r)
    (change next : Change)
    (read : change ≡ get_or s.first.items r change) (there : change.child < length rows)
    (next_read : next ≡ get_or s.next.now change.child (record { child = 0; after = 0 })) where
  d : IsDue rows s r
  d = is_due rows hr s r i top

  child_is : slice_index (children_of s.first.items) r ≡ change.child
  child_is = child_at s.first.items r change d.listed read

  was : IsTimed rows r change.child change.after
  was = rw (child_is, time_at s.first.items r change d.listed read) at (i.are_timed r d.there)

  is : IsChild rows r change.child
  is = rw child_is at (i.kept.states_are.left r d.there).child_is there

  next_there : change.child < length s.next.now
  next_there = omega (arith, there, simp length-map at i.are_next.whole)

  own_read : next ≡ get_or s.next.now change.child next
  own_read = next_read ∙ get_or_default s.next.now change.child _ _ next_there

  next_is : slice_index (children_of s.next.now) change.child ≡ next.child
  next_is = child_at s.next.now change.child next next_there own_read

  follows : IsNextChild rows (parent_of rows change.child) (change.child + 1) next.child
  follows = rw next_is at (i.are_next.child change.child is.not_main there)

  comes : IsTimed rows r next.child next.after
  comes = rw (next_is, time_at s.next.now change.child next next_there own_read, is.parent) at (i.are_next.timed change.child is.not_main there)

  pub is_spawning : IsSpawning rows s r change next
  is_spawning = record {
    child = child_is;
    is_child = is;
    next_child = follows;
    timed = comes;
    rises = timed_rise rows hr r change.child next.child change.after next.after is (rw is.parent at follows) was comes;
    now = omega (arith, (rw child_is at (i.kept.busy s.tick r d.due).spawns) there, was.spawns there);
  }
