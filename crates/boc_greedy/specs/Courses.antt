-- Greedy plans that are under way, and the queue of what changes next for each row.
use Rattle.std.specs.Prelude.{◌≡◌, ℕ, ◌+◌, ◌<◌, List, slice_index}
use Rattle.boc_runs.specs.declared.rows.Row.{Row}
use Rattle.boc_plans.specs.Plans.{start_of}
use Rattle.boc_greedy.specs.declared.course.Course.{Course}
use Rattle.boc_greedy.specs.declared.frontier.RowState.{RowState}
use Rattle.boc_greedy.specs.declared.frontier.RowState.TheVariants.{UnderWay}
use Rattle.boc_greedy.specs.declared.simulation.Simulation.{Simulation}
use Rattle.boc_greedy.specs.Frontier.{IsFrontier}
use Rattle.boc_greedy.specs.Queues.{Entry, IsIn, IsQueue}
use Rattle.boc_greedy.specs.RowStates.{IsAt}
use Rattle.boc_greedy.specs.Stepping.{IsSettled}

-- a simulation of the rows for p workers, at a tick at which no more row can start
pub record IsCourse (rows : List Row) (p : ℕ) (course : Course) : Type 0 where
  pub settled : IsSettled rows course.simulation
  pub asked : course.simulation.p ≡ p

-- the other simulation stands where this one does, but for its queue and its changes
pub record IsCopy (s other : Simulation) : Type 0 where
  pub p : other.p ≡ s.p
  pub starts : other.starts.items ≡ s.starts.items
  pub workers : other.workers.items ≡ s.workers.items
  pub states : other.frontier.states.items ≡ s.frontier.states.items
  pub frontier : (rows : List Row) → IsFrontier rows s.frontier → IsFrontier rows other.frontier
  pub idle : other.idle ≡ s.idle
  pub tick : other.tick ≡ s.tick
  pub moments : other.moments ≡ s.moments

-- row r is under way, and one of the first n, and its next change comes at this tick
pub record ChangesAt (n : ℕ) (states : List RowState) (starts times : List ℕ) (change r : ℕ) : Type 0 where
  pub before : r < n
  pub under_way : IsAt states r UnderWay
  pub change_is : change ≡ start_of starts r + slice_index times r

-- those of the first n rows that are under way stand in the queue, with the tick of their next change, and no others
pub record HoldsChanges (n : ℕ) (states : List RowState) (starts times : List ℕ) (queue : List Entry) : Type 0 where
  pub is_queue : IsQueue queue
  pub all : (r : ℕ) → r < n → IsAt states r UnderWay → IsIn queue (start_of starts r + slice_index times r) r
  pub only : (change r : ℕ) → IsIn queue change r → ChangesAt n states starts times change r
