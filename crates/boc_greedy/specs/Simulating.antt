-- What a simulation keeps, from one step to the next.
use Rattle.std.specs.Prelude.{◌≡◌, ◌≢◌, ℕ, ◌+◌, ◌<◌, ◌≤◌, List, length, slice_index}
use Rattle.boc_program.specs.declared.limits.TheConstants.{MOST_TICKS, MOST_WORKERS}
use Rattle.std.specs.Int.{bit_at}
use Rattle.std.specs.List.{sum_by}
use Rattle.boc_runs.specs.declared.rows.Row.{Row}
use Rattle.boc_runs.specs.Rows.{offset_of}
use Rattle.boc_plans.specs.Plans.{start_of, end_of, IsChild}
use Rattle.boc_plans.specs.Greedy.{worker_of, IsReady, IsFree, IsGreedyAt, IsMoment}
use Rattle.boc_greedy.specs.declared.frontier.RowState.{RowState}
use Rattle.boc_greedy.specs.declared.frontier.RowState.TheVariants.{Unspawned, Waiting, UnderWay, Over}
use Rattle.boc_greedy.specs.RowStates.{IsAt, CanStart}
use Rattle.boc_greedy.specs.Queues.{Entry, IsIn}

-- a tick after every tick of a plan: 2 ^ 64 - 1
abbrev pub later : ℕ
later = 18446744073709551615

-- w is the least worker that is idle
pub record IsLeastIdle (idle w : ℕ) : Type 0 where
  pub set : bit_at idle w ≡ 1
  pub least : (v : ℕ) → v < w → bit_at idle v ≡ 0

-- row r has started by tick t, on a worker that isn't idle, and stands in the queue
pub record IsOn (p : ℕ) (starts workers : List ℕ) (queue : List Entry) (idle t r : ℕ) : Type 0 where
  pub begun : start_of starts r ≤ t
  pub below : worker_of workers r < p
  pub taken : bit_at idle (worker_of workers r) ≢ 1
  pub change : ℕ
  pub queued : IsIn queue change r

-- row r spawns this child next, or ends, at the tick of its change
pub record IsBusy (rows : List Row) (starts : List ℕ) (states : List RowState) (t r child change : ℕ) : Type 0 where
  pub under_way : IsAt states r UnderWay
  pub ahead : t ≤ change
  pub spawns : child < length rows → change ≡ start_of starts r + offset_of rows child
  pub ends : length rows ≤ child → change ≡ end_of rows starts r

-- the children of row r from this one on are left, and those before it are spawned
pub record AreLeft (rows : List Row) (states : List RowState) (r child : ℕ) : Type 0 where
  pub child_is : child < length rows → IsChild rows r child
  pub before : (b : ℕ) → IsChild rows r b → b < child → IsAt states b Unspawned → ⊥
  pub after : (b : ℕ) → IsChild rows r b → child ≤ b → IsAt states b Unspawned

-- the rows that haven't started stand at a later tick in the plan, the others are at their states, with their children that are
-- left, and each worker that isn't idle has a row
pub record HaveStates (rows : List Row) (p end : ℕ) (starts workers : List ℕ) (states : List RowState) (first : List ℕ) (idle : ℕ) : Type 0 where
  pub starts_whole : length starts ≡ length rows
  pub workers_whole : length workers ≡ length rows
  pub states_whole : length states ≡ length rows
  pub first_whole : length first ≡ length rows
  pub few : p ≤ MOST_WORKERS
  pub unspawned : (r : ℕ) → IsAt states r Unspawned → start_of starts r ≡ end
  pub not_main : IsAt states 0 Unspawned → ⊥
  pub waiting : (r : ℕ) → IsAt states r Waiting → start_of starts r ≡ end
  pub all_spawned : (a b : ℕ) → IsChild rows a b → IsAt states a Over → IsAt states b Unspawned → ⊥
  pub left : (r : ℕ) → r < length rows → AreLeft rows states r (slice_index first r)
  pub apart : (a b : ℕ) → IsAt states a UnderWay → IsAt states b UnderWay → worker_of workers a ≡ worker_of workers b → a ≡ b
  pub held : (w : ℕ) → w < p → bit_at idle w ≢ 1 → (r : ℕ) × IsAt states r UnderWay × (worker_of workers r ≡ w)
  pub idle_below : (w : ℕ) → bit_at idle w ≡ 1 → w < p

-- at tick t, the rows are at their states, those that are under way stand in the queue, and the plan is greedy before t
pub record Kept (rows : List Row) (p end : ℕ) (starts workers : List ℕ) (states : List RowState) (first : List ℕ) (queue : List Entry) (idle t : ℕ) : Type 0
  where
    pub states_are : HaveStates rows p end starts workers states first idle
    pub early : t + MOST_TICKS < end
    pub under_way : (r : ℕ) → IsAt states r UnderWay → IsOn p starts workers queue idle t r
    pub over : (r : ℕ) → IsAt states r Over → end_of rows starts r ≤ t
    pub spawned : (a b : ℕ) → IsChild rows a b → (IsAt states b Unspawned → ⊥) → start_of starts a + offset_of rows b ≤ t
    pub busy : (change r : ℕ) → IsIn queue change r → IsBusy rows starts states t r (slice_index first r) change
    pub greedy : (u : ℕ) → u < t → IsGreedyAt rows p starts workers u

-- no row starts at tick t
abbrev pub IsFresh : List Row → List ℕ → ℕ → Type 0
IsFresh rows starts t = (r : ℕ) → r < length rows → start_of starts r ≡ t → ⊥

-- the rows that have started at tick t so far are the least, and so are their workers
pub record Given (rows : List Row) (p : ℕ) (starts workers : List ℕ) (states : List RowState) (idle t : ℕ) : Type 0 where
  pub ready : (r : ℕ) → r < length rows → start_of starts r ≡ t → IsReady rows starts t r
  pub free : (r : ℕ) → r < length rows → start_of starts r ≡ t → IsFree rows p starts workers t (worker_of workers r)
  pub rising : (a b : ℕ) → a < b → b < length rows → start_of starts a ≡ t → start_of starts b ≡ t → worker_of workers a < worker_of workers b
  pub least_rows : (a b : ℕ) → a < length rows → start_of starts a ≡ t → CanStart rows states b → a < b
  pub least_workers : (r w : ℕ) → r < length rows → start_of starts r ≡ t → bit_at idle w ≡ 1 → worker_of workers r < w

-- nothing changes for any row until after tick t
abbrev pub HasPassed : List Entry → ℕ → Type 0
HasPassed queue t = (change r : ℕ) → IsIn queue change r → t < change

-- no row can start, or no worker is idle
abbrev pub IsFull : List Row → List RowState → ℕ → Type 0
IsFull rows states idle = (b w : ℕ) → CanStart rows states b → bit_at idle w ≢ 1

-- t is a moment of the plan, and has come by now
pub record IsPast (rows : List Row) (starts : List ℕ) (now t : ℕ) : Type 0 where
  pub come : t ≤ now
  pub moment : IsMoment rows starts t

-- how many steps a row at this state has before it: its spawn, its start and its end
abbrev pub steps_left : RowState → ℕ
steps_left Unspawned = 3
steps_left Waiting = 2
steps_left UnderWay = 1
steps_left Over = 0

-- the steps that are left for all rows
abbrev pub steps_of_all : List RowState → ℕ
steps_of_all states = sum_by steps_left states
