-- The last child of each row.
use Rattle.std.specs.Prelude.{◌≡◌, ℕ, ◌<◌, List, length, slice_index}
use Rattle.boc_runs.specs.declared.rows.Row.{Row}
use Rattle.boc_runs.specs.Rows.{IsLast}

-- for each row the offset of its last child, and 0 where it has none
pub record HasLasts (rows : List Row) (lasts : List ℕ) : Type 0 where
  pub whole : length lasts ≡ length rows
  pub at : (row : ℕ) → row < length rows → IsLast rows (length rows) row (slice_index lasts row)
