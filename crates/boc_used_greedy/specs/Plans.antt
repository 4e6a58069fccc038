-- A greedy plan as far as it is made.
use Rattle.std.specs.Prelude.{◌≡◌, ℕ, ◌+◌, ◌*◌, ◌^◌, ◌<◌, ◌≤◌, ◌⊎◌, List, Option, Some, length, slice_index, slice_set, nat_eq}
use Rattle.std.specs.List.{Contains, count_by}
use Rattle.std.specs.BinaryHeap.{heap_items, IsHeap}
use Rattle.std.specs.declared.cmp.Reverse.{Reverse}
use Rattle.std.specs.declared.cmp.Ordering.{Ordering}
use Rattle.std.specs.Ordering.{nat_cmp}
use Rattle.boc_program.specs.declared.limits.TheConstants.{MOST_ROWS, MOST_TICKS, MOST_WORKERS}
use Rattle.boc_runs.specs.declared.rows.Row.{Row}
use Rattle.boc_runs.specs.Rows.{ticks_of}
use Rattle.boc_plans.specs.Plans.{start_of, end_of}
use Rattle.boc_plans.specs.Greedy.{worker_of, IsFree, IsTaken}
use Rattle.boc_greedy.specs.Queues.{entry_order, IsIn}
use Rattle.boc_greedy.specs.Simulating.{later}
use Rattle.boc_uses.specs.declared.uses.Use.{Use}
use Rattle.boc_used_greedy.specs.declared.plan.Plan.{Plan}
use Rattle.boc_used_greedy.specs.Ready.{so_far, IsReadyBy, IsReadyFrom, CanStartAt, IsGreedyBy}
use Rattle.boc_used_greedy.specs.Fronts.{AreFronts}

-- a row has not started
abbrev pub NotStarted : List Row → List ℕ → ℕ → Type 0
NotStarted rows plan r = (r < length rows) × (start_of plan r ≡ later)

-- a row has started
abbrev pub HasStarted : List Row → List ℕ → ℕ → Type 0
HasStarted rows plan r = (r < length rows) × (start_of plan r < later)

-- of two rows that are ready the least is the greater one
abbrev pub row_order : Reverse ℕ → Reverse ℕ → Ordering
row_order x y = nat_cmp y.0 x.0

-- a row is in this queue
abbrev pub IsReady : List (Reverse ℕ) → ℕ → Type 0
IsReady ready r = Contains ready (record { 0 = r })

-- The starts so far are those of a greedy plan, and all of them are at this tick or earlier.
pub record IsGreedySoFar (rows : List Row) (holds : List (Option Use)) (p : ℕ) (plan workers : List ℕ) (tick : ℕ) : Type 0 where
  pub whole : length plan ≡ length rows
  pub all_served : length workers ≡ length rows
  pub most : (r : ℕ) → r < length rows → start_of plan r ≤ later
  pub come : (r : ℕ) → HasStarted rows plan r → start_of plan r ≤ tick
  pub before : tick < later
  pub ready : (r : ℕ) → HasStarted rows plan r → IsReadyBy rows holds (so_far (start_of plan r) plan) (start_of plan r) r
  pub free : (r : ℕ) → HasStarted rows plan r → IsFree rows p plan workers (start_of plan r) (worker_of workers r)
  pub rising : (a b : ℕ) → a < b → HasStarted rows plan a → HasStarted rows plan b → start_of plan a ≡ start_of plan b
      → worker_of workers a < worker_of workers b
  pub least_workers : (r w : ℕ) → HasStarted rows plan r → IsFree rows p plan workers (start_of plan r) w → w < worker_of workers r
      → IsTaken rows plan workers (start_of plan r) w
  pub least_rows : (a b t : ℕ) → t < tick → CanStartAt rows holds plan t b → t < start_of plan b → a < length rows → start_of plan a ≡ t → a < b
  pub none_idle : (b w t : ℕ) → t < tick → CanStartAt rows holds plan t b → t < start_of plan b → IsFree rows p plan workers t w
      → IsTaken rows plan workers t w

-- each worker is free from when its last row has ended
pub record AreFreeFrom (rows : List Row) (p : ℕ) (plan workers free : List ℕ) : Type 0 where
  pub whole : length free ≡ p
  pub below : (r : ℕ) → HasStarted rows plan r → worker_of workers r < p
  pub above : (r : ℕ) → HasStarted rows plan r → end_of rows plan r ≤ slice_index free (worker_of workers r)
  pub reached : (w : ℕ) → w < p → (slice_index free w ≡ 0)
      ⊎ ((r : ℕ) × HasStarted rows plan r × (worker_of workers r ≡ w) × (end_of rows plan r ≡ slice_index free w))

-- Rows that start at the tick of the plan from now on come after those that have: they have greater numbers, and get greater workers.
pub record IsNext (rows : List Row) (holds : List (Option Use)) (plan workers free : List ℕ) (tick : ℕ) : Type 0 where
  pub rows_rise : (a b : ℕ) → HasStarted rows plan a → start_of plan a ≡ tick → NotStarted rows plan b → IsReadyBy rows holds plan tick b → a < b
  pub workers_rise : (a w : ℕ) → HasStarted rows plan a → start_of plan a ≡ tick → w < length free → slice_index free w ≤ tick → worker_of workers a < w

-- The rows in the queues are ready by their ticks, and those that wait have not started. Each row that has not, and of which it is known when it is ready, is
-- in a queue, but for one that is to start next, if there is one.
pub record AreQueued (rows : List Row) (holds : List (Option Use)) (plan : List ℕ) (waiting : List (Reverse (ℕ × ℕ))) (ready : List (Reverse ℕ)) (tick : ℕ)
    (next : Option ℕ) : Type 0 where
  pub waiting_heap : IsHeap entry_order waiting
  pub ready_heap : IsHeap row_order ready
  pub waits : (due r : ℕ) → IsIn waiting due r → NotStarted rows plan r × IsReadyFrom rows holds plan due r × (due < 2 ^ 63)
  pub are_ready : (r : ℕ) → IsReady ready r → (r < length rows) × IsReadyBy rows holds plan tick r
  pub all : (t r : ℕ) → t < 2 ^ 63 → NotStarted rows plan r → IsReadyBy rows holds plan t r
      → (next ≡ Some r) ⊎ (IsReady ready r ⊎ ((due : ℕ) × IsIn waiting due r))

-- the rows that were ready by a tick have gone from the first queue to the second
pub record IsGathered (tick : ℕ) (waiting : List (Reverse (ℕ × ℕ))) (ready : List (Reverse ℕ)) (waiting' : List (Reverse (ℕ × ℕ))) (ready' : List (Reverse ℕ))
    : Type 0 where
  pub waiting_heap : IsHeap entry_order waiting'
  pub ready_heap : IsHeap row_order ready'
  pub later_left : (due r : ℕ) → IsIn waiting' due r → tick < due
  pub waited : (due r : ℕ) → IsIn waiting' due r → IsIn waiting due r
  pub moved : (due r : ℕ) → IsIn waiting due r → IsReady ready' r ⊎ IsIn waiting' due r
  pub stays : (r : ℕ) → IsReady ready r → IsReady ready' r
  pub was : (r : ℕ) → IsReady ready' r → IsReady ready r ⊎ ((due : ℕ) × (due ≤ tick) × IsIn waiting due r)

-- how many rows have not started
abbrev pub unstarted_of : List ℕ → ℕ
unstarted_of plan = count_by (λ s. nat_eq s later) plan

-- by how many ticks one start can take a plan on at most
abbrev pub most_on : ℕ
most_on = (MOST_ROWS + 1) * MOST_TICKS

-- no tick is too great: each start so far took the plan on by no more than that
abbrev pub IsLow : List Row → List ℕ → ℕ → Type 0
IsLow rows plan tick = tick + unstarted_of plan * most_on ≤ length rows * most_on

-- a plan under way, where a row may have been taken from the queues, to start next
pub record IsMade (rows : List Row) (holds : List (Option Use)) (p : ℕ) (next : Option ℕ) (plan : Plan) : Type 0 where
  pub greedy : IsGreedySoFar rows holds p plan.starts.items plan.workers.items plan.tick
  pub free : AreFreeFrom rows p plan.starts.items plan.workers.items plan.free.items
  pub coming : IsNext rows holds plan.starts.items plan.workers.items plan.free.items plan.tick
  pub fronts : AreFronts rows holds plan.starts.items plan.fronts.items
  pub queued : AreQueued rows holds plan.starts.items (heap_items plan.waiting) (heap_items plan.ready) plan.tick next
  pub few : p ≤ MOST_WORKERS
  pub some : 0 < p

-- a row is the least of those that can start at the tick of the plan and haven't
pub record IsLeastRow (rows : List Row) (holds : List (Option Use)) (plan : Plan) (row : ℕ) : Type 0 where
  pub not_started : NotStarted rows plan.starts.items row
  pub ready : IsReadyBy rows holds plan.starts.items plan.tick row
  pub least : (r : ℕ) → NotStarted rows plan.starts.items r → IsReadyBy rows holds plan.starts.items plan.tick r → row ≤ r

-- worker w is the first that is free at the tick of the plan
pub record IsFirstFree (plan : Plan) (w : ℕ) : Type 0 where
  pub below : w < length plan.free.items
  pub free : slice_index plan.free.items w ≤ plan.tick
  pub first : (k : ℕ) → k < w → plan.tick < slice_index plan.free.items k

-- a row is the next one to start, at the tick of the plan, and a worker is free then
pub record IsNextStart (rows : List Row) (holds : List (Option Use)) (plan : Plan) (row : ℕ) : Type 0 where
  pub row_is : IsLeastRow rows holds plan row
  pub after : (due r : ℕ) → IsIn (heap_items plan.waiting) due r → plan.tick < due
  pub worker : ℕ
  pub below : worker < length plan.free.items
  pub free : slice_index plan.free.items worker ≤ plan.tick
  pub low : plan.tick + unstarted_of plan.starts.items * most_on ≤ length rows * most_on + most_on

-- from the tick of the plan on and before a later one no worker is free, or no row can start
pub record IsIdle (rows : List Row) (holds : List (Option Use)) (plan : Plan) (next : ℕ) : Type 0 where
  pub before : next < later
  pub idle : (t : ℕ) → plan.tick ≤ t → t < next → ((w : ℕ) → w < length plan.free.items → t < slice_index plan.free.items w)
      ⊎ ((b : ℕ) → NotStarted rows plan.starts.items b → IsReadyBy rows holds plan.starts.items t b → ⊥)

-- in the later plan a row starts at the tick of the plan, on the first worker that is free
pub record IsPlaced (rows : List Row) (plan : Plan) (row : ℕ) (more : Plan) : Type 0 where
  pub worker : ℕ
  pub first : IsFirstFree plan worker
  pub starts : more.starts.items ≡ slice_set plan.starts.items row plan.tick
  pub workers : more.workers.items ≡ slice_set plan.workers.items row worker
  pub free : more.free.items ≡ slice_set plan.free.items worker (plan.tick + ticks_of rows row)
  pub tick : more.tick ≡ plan.tick

-- some rows of a list are in the later queue too, with the first ticks by which they can start: those that haven't started and can by some tick
pub record IsQueuedMore (rows : List Row) (holds : List (Option Use)) (plan list : List ℕ) (waiting more : List (Reverse (ℕ × ℕ))) : Type 0 where
  pub heap : IsHeap entry_order more
  pub stays : (due r : ℕ) → IsIn waiting due r → IsIn more due r
  pub was : (due r : ℕ) → IsIn more due r → IsIn waiting due r ⊎ (NotStarted rows plan r × IsReadyFrom rows holds plan due r × (due < 2 ^ 63))
  pub all : (t r : ℕ) → t < 2 ^ 63 → Contains list r → NotStarted rows plan r → IsReadyBy rows holds plan t r → (due : ℕ) × IsIn more due r

-- all rows have started, as in a greedy plan
pub record IsFinished (rows : List Row) (holds : List (Option Use)) (p : ℕ) (plan : Plan) : Type 0 where
  pub whole : length plan.starts.items ≡ length rows
  pub served : length plan.workers.items ≡ length rows
  pub low : (r : ℕ) → r < length rows → start_of plan.starts.items r < 2 ^ 61
  pub greedy : (t : ℕ) → IsGreedyBy rows holds p plan.starts.items plan.workers.items t
  pub fronts : AreFronts rows holds plan.starts.items plan.fronts.items
