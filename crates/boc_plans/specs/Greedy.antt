-- Plans for p workers, and the greedy one.
use Rattle.std.specs.Prelude.{◌≡◌, ℕ, ◌+◌, ◌/◌, ◌<◌, ◌≤◌, ◌⊎◌, List, length, slice_index}
use Rattle.std.specs.List.{Contains}
use Rattle.boc_runs.specs.declared.rows.Row.{Row}
use Rattle.boc_runs.specs.Rows.{offset_of}
use Rattle.boc_plans.specs.Plans.{start_of, end_of, work_of, IsChild, Ordered, IsEarliest, IsEnd}

-- the worker that a row stands on; the workers have the numbers from 0
abbrev pub worker_of : List ℕ → ℕ → ℕ
worker_of workers r = slice_index workers r

-- row r is under way at tick t
pub record RunsAt (rows : List Row) (plan : List ℕ) (r t : ℕ) : Type 0 where
  pub there : r < length rows
  pub begun : start_of plan r ≤ t
  pub not_over : t < end_of rows plan r

-- each row stands on one of p workers, and no worker has two rows at one tick
pub record IsForWorkers (rows : List Row) (p : ℕ) (plan workers : List ℕ) : Type 0 where
  pub whole : length workers ≡ length rows
  pub below : (r : ℕ) → r < length rows → worker_of workers r < p
  pub apart : (a b t : ℕ) → RunsAt rows plan a t → RunsAt rows plan b t → worker_of workers a ≡ worker_of workers b → a ≡ b

-- row r has not started before tick t, and can start there: its spawn has come, and the rows that are ordered before it are over
pub record IsReady (rows : List Row) (plan : List ℕ) (t r : ℕ) : Type 0 where
  pub there : r < length rows
  pub waits : t ≤ start_of plan r
  pub spawned : (a : ℕ) → IsChild rows a r → start_of plan a + offset_of rows r ≤ t
  pub in_order : (a : ℕ) → Ordered rows a r → end_of rows plan a ≤ t

-- worker w has no row that starts before tick t and ends after it
pub record IsFree (rows : List Row) (p : ℕ) (plan workers : List ℕ) (t w : ℕ) : Type 0 where
  pub below : w < p
  pub idle : (r : ℕ) → r < length rows → worker_of workers r ≡ w → start_of plan r < t → end_of rows plan r ≤ t

-- at tick t, worker w gets a row
abbrev pub IsTaken : List Row → List ℕ → List ℕ → ℕ → ℕ → Type 0
IsTaken rows plan workers t w = (r : ℕ) × (r < length rows) × (start_of plan r ≡ t) × (worker_of workers r ≡ w)

-- at tick t the least ready rows start, as many as there are free workers, and in their order they stand on the least of those
pub record IsGreedyAt (rows : List Row) (p : ℕ) (plan workers : List ℕ) (t : ℕ) : Type 0 where
  pub ready : (r : ℕ) → r < length rows → start_of plan r ≡ t → IsReady rows plan t r
  pub free : (r : ℕ) → r < length rows → start_of plan r ≡ t → IsFree rows p plan workers t (worker_of workers r)
  pub rising : (a b : ℕ) → a < b → b < length rows → start_of plan a ≡ t → start_of plan b ≡ t → worker_of workers a < worker_of workers b
  pub least_rows : (a b : ℕ) → IsReady rows plan t b → t < start_of plan b → a < length rows → start_of plan a ≡ t → a < b
  pub none_idle : (b w : ℕ) → IsReady rows plan t b → t < start_of plan b → IsFree rows p plan workers t w → IsTaken rows plan workers t w
  pub least_workers : (r w : ℕ) → r < length rows → start_of plan r ≡ t → IsFree rows p plan workers t w → w < worker_of workers r →
      IsTaken rows plan workers t w

-- the plan is greedy at every tick
pub record IsGreedy (rows : List Row) (p : ℕ) (plan workers : List ℕ) : Type 0 where
  pub whole : length plan ≡ length rows
  pub all_served : length workers ≡ length rows
  pub at : (t : ℕ) → IsGreedyAt rows p plan workers t

-- the span: the end of the earliest plan
pub record IsSpan (rows : List Row) (span : ℕ) : Type 0 where
  pub plan : List ℕ
  pub earliest : IsEarliest rows plan
  pub ends : IsEnd rows plan span

-- the tick by which a greedy plan for p workers has ended: the work divided by p, rounded down, and the span
pub record IsBound (rows : List Row) (p bound : ℕ) : Type 0 where
  pub span : ℕ
  pub is_span : IsSpan rows span
  pub is : bound ≡ work_of rows / p + span

-- a tick at which something can change: the first, the end of a row, or the spawn of a child
abbrev pub IsMoment : List Row → List ℕ → ℕ → Type 0
IsMoment rows plan t = (t ≡ 0) ⊎ ((r : ℕ) × (r < length rows) × (end_of rows plan r ≡ t))
    ⊎ ((a : ℕ) × (b : ℕ) × IsChild rows a b × (start_of plan a + offset_of rows b ≡ t))

-- how many different numbers have a property
pub record CountsAll (count : ℕ) (P : ℕ → Type 0) : Type 0 where
  pub list : List ℕ
  pub rises : (i j : ℕ) → i < j → j < length list → slice_index list i < slice_index list j
  pub sound : (i : ℕ) → i < length list → P (slice_index list i)
  pub complete : (x : ℕ) → P x → Contains list x
  pub is : length list ≡ count
