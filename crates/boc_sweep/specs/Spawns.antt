-- What the spans of a sweep over spawns are read from.
use Rattle.std.specs.Prelude.{◌≡◌, ℕ, ◌<◌, ◌≤◌, ◌⊎◌, List, length, slice_index}
use Rattle.std.specs.List.{Contains}
use Rattle.boc_runs.specs.declared.rows.Row.{Row}
use Rattle.boc_runs.specs.Rows.{IsLast, parent_of}

-- for each row the offset of its elder sibling, and 0 where it has none
pub record HasElders (rows : List Row) (elders : List ℕ) : Type 0 where
  pub whole : length elders ≡ length rows
  pub at : (row : ℕ) → row < length rows → IsLast rows row (parent_of rows row) (slice_index elders row)

-- the tick by which a spawn has come and the rows that are waited for are over, at these ends
pub record IsReadyAt (spawned : ℕ) (waits ends : List ℕ) (tick : ℕ) : Type 0 where
  pub after_spawn : spawned ≤ tick
  pub after_waits : (a : ℕ) → Contains waits a → slice_index ends a ≤ tick
  pub reached : (tick ≡ spawned) ⊎ ((a : ℕ) × Contains waits a × (slice_index ends a ≡ tick))
