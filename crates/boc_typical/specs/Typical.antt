-- Rows that take typical ticks.
use Rattle.std.specs.Prelude.{◌≡◌, ℕ, ◌+◌, ◌<◌, max, List, length, slice_get, slice_index}
use Rattle.boc_runs.specs.declared.rows.Row.{Row}
use Rattle.boc_runs.specs.Rows.{IsLast, parent_of, offset_of, ticks_of}
use Rattle.boc_runs.specs.Changes.{IsSameBut, part_of}
use Rattle.boc_typical.specs.Medians.{IsTypicalOf}

-- The rows in which each takes the typical ticks of its def in place of its own. Where these are m and its own were t, its children's offsets are m / t of
-- what they were, rounded up. An offset is above the elder sibling's at any rate, and the ticks are no fewer than the last child's offset. Nothing else
-- changes.
pub record IsTypical (rows : List Row) (defs : List ℕ) (after : List Row) : Type 0 where
  pub whole : length after ≡ length rows
  pub same : (r : ℕ) → IsSameBut (slice_get rows r) (slice_get after r)
  pub main_offset : offset_of after 0 ≡ offset_of rows 0
  pub offsets : (b elder m : ℕ) → 0 < b → b < length rows → IsLast after b (parent_of rows b) elder
      → IsTypicalOf rows defs (slice_index defs (parent_of rows b)) m
      → offset_of after b ≡ max (part_of m (ticks_of rows (parent_of rows b)) (offset_of rows b)) (elder + 1)
  pub ticks : (r last m : ℕ) → r < length rows → IsLast after (length after) r last → IsTypicalOf rows defs (slice_index defs r) m
      → ticks_of after r ≡ max m last
