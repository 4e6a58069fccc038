-- Runs in which no row runs, and what waits for a row.
use Rattle.std.specs.Prelude.{◌≡◌, ℕ, ◌+◌, ◌<◌, List, [], ◌∷◌, ◌++◌, Bool, false, IsTrue, Option, Some, slice_index_or}
use Rattle.std.specs.List.{Contains}
use Rattle.boc_runs.specs.Lives.{Life, Pending, Running, Overlap, MayStart}
use Rattle.boc_runs.specs.Legal.{Entry, life_of, entry_cowns}

-- no row runs
abbrev pub NoneRuns : (ℕ → Option Life) → Type 0
NoneRuns life = (row : ℕ) → life row ≡ Some Running → ⊥

-- a pending row, and no row with a lower number is pending
pub record IsLeastPending (life : ℕ → Option Life) (row : ℕ) : Type 0 where
  pub waits : life row ≡ Some Pending
  pub least : (other : ℕ) → other < row → life other ≡ Some Pending → ⊥

-- of these rows the lowest-numbered pending one is there, and may start
pub record HasStart (rows : List Entry) : Type 0 where
  pub row : ℕ
  pub least : IsLeastPending (life_of rows) row
  pub starts : MayStart (life_of rows) (entry_cowns rows) row

-- A row is pending and has a cown in common with a row spawned before it: it is behind that one in the cown's queue, and can't start before it has ended.
pub record IsBehind (life : ℕ → Option Life) (cowns : ℕ → List ℕ) (before row : ℕ) : Type 0 where
  pub later : before < row
  pub waits : life row ≡ Some Pending
  pub shares : Overlap cowns before row

-- A row waits for a first one: it is behind that one, or behind a row that waits for it.
pub data WaitsFor (life : ℕ → Option Life) (cowns : ℕ → List ℕ) (first : ℕ) : ℕ → Type 0 where
  Directly : (row : ℕ) → IsBehind life cowns first row → WaitsFor life cowns first row
  Through : (between row : ℕ) → WaitsFor life cowns first between → IsBehind life cowns between row → WaitsFor life cowns first row

-- the numbers below a number of which something holds, in rising order
pub data AreThose (P : ℕ → Type 0) : ℕ → List ℕ → Type 0 where
  Begun : AreThose P 0 []
  Taken : (n : ℕ) (those : List ℕ) → AreThose P n those → P n → AreThose P (n + 1) (those ++ n ∷ [])
  Left : (n : ℕ) (those : List ℕ) → AreThose P n those → (P n → ⊥) → AreThose P (n + 1) those

-- a cown is marked
abbrev pub IsMarked : List Bool → ℕ → Type 0
IsMarked marks cown = IsTrue (slice_index_or marks cown false)

-- one of these cowns is marked
abbrev pub HasMarked : List Bool → List ℕ → Type 0
HasMarked marks cowns = (cown : ℕ) × Contains cowns cown × IsMarked marks cown
