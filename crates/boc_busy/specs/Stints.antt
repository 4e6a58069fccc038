-- The rows of a run on their workers.
use Rattle.std.specs.Prelude.{◌≡◌, ◌≢◌, ℕ, ◌+◌, ◌<◌, ◌≤◌, ◌⊎◌, List, length, Some, slice_get, slice_index}
use Rattle.boc_busy.specs.declared.stints.Stint.{Stint}

-- the stint is that of a row, where rows start and end so on these workers
pub record IsStint (starts ends workers : List ℕ) (row : ℕ) (s : Stint) : Type 0 where
  pub row_is : s.row ≡ row
  pub worker_is : s.worker ≡ slice_index workers row
  pub start_is : s.start ≡ slice_index starts row
  pub end_is : s.end ≡ slice_index ends row

-- the stints of all rows, in the order of the rows
pub record AreStints (starts ends workers : List ℕ) (stints : List Stint) : Type 0 where
  pub whole : length stints ≡ length starts
  pub at : (k : ℕ) (s : Stint) → slice_get stints k ≡ Some s → IsStint starts ends workers k s

-- each row has one stint; those of one worker stand side by side, in the order of their starts
pub record AreInLine (starts ends workers : List ℕ) (stints : List Stint) : Type 0 where
  pub each : (k : ℕ) (s : Stint) → slice_get stints k ≡ Some s → (s.row < length starts) × IsStint starts ends workers s.row s
  pub all : (row : ℕ) → row < length starts → (k : ℕ) × (s : Stint) × (slice_get stints k ≡ Some s) × (s.row ≡ row)
  pub one : (i j : ℕ) (a b : Stint) → i < j → slice_get stints i ≡ Some a → slice_get stints j ≡ Some b → a.row ≢ b.row
  pub rise : (i j : ℕ) (a b : Stint) → i < j → slice_get stints i ≡ Some a → slice_get stints j ≡ Some b
      → (a.worker < b.worker) ⊎ ((a.worker ≡ b.worker) × (a.start ≤ b.start))

-- a stint is over when another one of its worker starts
abbrev pub IsApart : Stint → Stint → Type 0
IsApart first next = first.worker ≡ next.worker → first.end ≤ next.start

-- of two stints of one worker that stand side by side the first is over when the second starts
abbrev pub AreApart : List Stint → Type 0
AreApart stints = (k : ℕ) (a b : Stint) → slice_get stints k ≡ Some a → slice_get stints (k + 1) ≡ Some b → IsApart a b
