-- The chain of a greedy plan: for each row, back from the one that ends last, what it started after.
use Rattle.std.specs.Prelude.{◌≡◌, ℕ, suc, ◌<◌, ◌≤◌, List, length, Option, Some, None, slice_get, slice_index, slice_index_or}
use Rattle.std.specs.List.{Contains}
use Rattle.boc_runs.specs.declared.rows.Row.{Row}
use Rattle.boc_runs.specs.Rows.{offset_of, ticks_of}
use Rattle.boc_plans.specs.Plans.{IsChild, IsEnd, end_of, start_of}
use Rattle.boc_plans.specs.Greedy.{RunsAt, worker_of}
use Rattle.boc_plans.specs.Chains.{IsOrderTight, IsSpawnTight}
use Rattle.boc_greedy_chain.specs.declared.chain.GreedyStep.{GreedyStep}
use Rattle.boc_greedy_chain.specs.declared.chain.Tie.{Tie}
use Rattle.boc_greedy_chain.specs.declared.chain.Tie.TheVariants.{Spawn, Order, Worker, Last}

-- ---- who takes over which worker

-- row b takes over the worker of row a: it starts there when row a ends
pub record TakesOver (rows : List Row) (plan workers : List ℕ) (a b : ℕ) : Type 0 where
  pub there : a < length rows
  pub same : worker_of workers a ≡ worker_of workers b
  pub at_once : end_of rows plan a ≡ start_of plan b

-- row a has the worker of row b before it: it starts sooner on the same one, and no other row starts there between the two
pub record HasItBefore (plan workers : List ℕ) (a b : ℕ) : Type 0 where
  pub there : a < length plan
  pub same : worker_of workers a ≡ worker_of workers b
  pub sooner : start_of plan a < start_of plan b
  pub none_between : (r : ℕ) → r < length plan → worker_of workers r ≡ worker_of workers b → start_of plan a < start_of plan r →
      start_of plan r < start_of plan b → ⊥

-- the row that has the worker of row b before it, or none where row b is the first there
abbrev pub IsPredecessor : List ℕ → List ℕ → ℕ → Option ℕ → Type 0
IsPredecessor plan workers b (Some a) = HasItBefore plan workers a b
IsPredecessor plan workers b None = (r : ℕ) → r < length plan → worker_of workers r ≡ worker_of workers b → start_of plan r < start_of plan b → ⊥

-- for each row the one that has its worker before it
pub record ArePredecessors (plan workers : List ℕ) (before : List (Option ℕ)) : Type 0 where
  pub whole : length before ≡ length plan
  pub at : (b : ℕ) → b < length plan → IsPredecessor plan workers b (slice_index_or before b None)

-- ---- ties

-- the row starts when no spawn and no row that it is ordered after holds it back: only its worker does
pub record IsReadySooner (rows : List Row) (plan : List ℕ) (b : ℕ) : Type 0 where
  pub not_spawned : IsSpawnTight rows plan b → ⊥
  pub none_ends : (a : ℕ) → IsOrderTight rows plan a b → ⊥

-- What a tie from row a with this weight says of the step after it: the next row starts as soon as it is spawned; else when the lowest row that is ordered
-- before it and ends then does; else when its worker is free. A spawn weighs the offset, the others the row's ticks.
abbrev pub TieSays : List Row → List ℕ → List ℕ → ℕ → ℕ → Tie → Option GreedyStep → Type 0
TieSays rows plan workers a weight Spawn (Some next) = IsChild rows a next.row × IsSpawnTight rows plan next.row × (weight ≡ offset_of rows next.row)
TieSays rows plan workers a weight Order (Some next) = (IsSpawnTight rows plan next.row → ⊥) × IsOrderTight rows plan a next.row
    × ((other : ℕ) → IsOrderTight rows plan other next.row → a ≤ other) × (weight ≡ ticks_of rows a)
TieSays rows plan workers a weight Worker (Some next) = IsReadySooner rows plan next.row × TakesOver rows plan workers a next.row × (weight ≡ ticks_of rows a)
TieSays rows plan workers a weight Last None = IsEnd rows plan (end_of rows plan a)
    × ((other : ℕ) → other < length rows → IsEnd rows plan (end_of rows plan other) → a ≤ other) × (weight ≡ ticks_of rows a)
TieSays rows plan workers a weight tie next = ⊥

-- the step is tied to row b
abbrev pub IsTiedTo : List Row → List ℕ → List ℕ → GreedyStep → ℕ → Type 0
IsTiedTo rows plan workers s b = (next : GreedyStep) → next.row ≡ b → TieSays rows plan workers s.row s.weight s.tie (Some next)

-- the chain of a greedy plan: it begins with main, and each tie says what it says of the step after it
pub record IsGreedyChain (rows : List Row) (plan workers : List ℕ) (steps : List GreedyStep) : Type 0 where
  pub not_empty : 0 < length steps
  pub main : (s : GreedyStep) → slice_get steps 0 ≡ Some s → s.row ≡ 0
  pub there : (k : ℕ) (s : GreedyStep) → slice_get steps k ≡ Some s → s.row < length rows
  pub ties : (k : ℕ) (s : GreedyStep) → slice_get steps k ≡ Some s → TieSays rows plan workers s.row s.weight s.tie (slice_get steps (suc k))

-- ---- what the search finds on its way

-- the first row that ends at this tick
pub record IsFirstAt (ends : List ℕ) (tick row : ℕ) : Type 0 where
  pub there : row < length ends
  pub ends_then : slice_index ends row ≡ tick
  pub none_before : (r : ℕ) → r < row → slice_index ends r ≡ tick → ⊥

-- the least of these rows that ends at this tick, or none where none does
abbrev pub IsLeastEnding : List ℕ → List ℕ → ℕ → Option ℕ → Type 0
IsLeastEnding rows ends tick (Some a) = Contains rows a × (slice_index ends a ≡ tick)
    × ((other : ℕ) → Contains rows other → slice_index ends other ≡ tick → a ≤ other)
IsLeastEnding rows ends tick None = (other : ℕ) → Contains rows other → slice_index ends other ≡ tick → ⊥

-- each of p workers has a row under way at this tick
abbrev pub AreAllBusy : List Row → ℕ → List ℕ → List ℕ → ℕ → Type 0
AreAllBusy rows p plan workers t = (w : ℕ) → w < p → (r : ℕ) × RunsAt rows plan r t × (worker_of workers r ≡ w)
