-- The eager plan: whatever can start does, with a worker for each row.
use Rattle.std.specs.Prelude.{◌≡◌, ◌≢◌, ◌↔◌, ◌⊎◌, ◌+◌, ◌<◌, ◌≤◌, ℕ, List, length}
use Rattle.boc_runs.specs.declared.rows.Row.{Row}
use Rattle.boc_runs.specs.Rows.{offset_of}
use Rattle.boc_plans.specs.Plans.{ConflictOn, IsChild, IsEnd, end_of, start_of}
use Rattle.boc_order.specs.Least.{KeepsSpawns}
use Rattle.boc_eager.specs.declared.plan.Eager.{Eager}

-- row b is spawned by tick t: it is main, or its parent started at least its offset before
abbrev pub IsSpawnedBy : List Row → List ℕ → ℕ → ℕ → Type 0
IsSpawnedBy rows plan t b = (a : ℕ) → IsChild rows a b → start_of plan a + offset_of rows b ≤ t

-- row a is in the way of row b at tick t: they conflict over some cown, and row a is under way then; it started before, or at that tick with a lower number
pub record IsInTheWay (rows : List Row) (plan : List ℕ) (t a b : ℕ) : Type 0 where
  pub there : a < length rows
  pub other : a ≢ b
  pub at_odds : (c : ℕ) × ConflictOn rows c a b
  pub begun : (start_of plan a < t) ⊎ ((start_of plan a ≡ t) × (a < b))
  pub not_over : t < end_of rows plan a

-- at tick t, of the rows that are spawned and have not started before, just those start in whose way no row is
abbrev pub IsEagerAt : List Row → List ℕ → ℕ → Type 0
IsEagerAt rows plan t = (b : ℕ) → b < length rows → t ≤ start_of plan b → IsSpawnedBy rows plan t b
    → (start_of plan b ≡ t) ↔ ((a : ℕ) → IsInTheWay rows plan t a b → ⊥)

-- the plan keeps the spawns, and at each tick whatever can start does
pub record IsEager (rows : List Row) (plan : List ℕ) : Type 0 where
  pub keeps : KeepsSpawns rows plan
  pub at : (t : ℕ) → IsEagerAt rows plan t

-- the eager plan of the rows, and its end
pub record IsEagerPlanOf (rows : List Row) (plan : Eager) : Type 0 where
  pub eager : IsEager rows plan.starts.items
  pub ends : IsEnd rows plan.starts.items plan.end
