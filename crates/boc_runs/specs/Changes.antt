-- Rows that are changed: of which one is spawned at another tick, one costs a part of what it did, or none has some cown.
use Rattle.std.specs.Prelude.{◌≡◌, ◌≢◌, ℕ, zero, suc, ◌+◌, ◌*◌, ◌<◌, ◌≤◌, max, List, [], ◌∷◌, length, map, Option, Some, None, slice_get}
use Rattle.std.specs.Int.{div_ceil}
use Rattle.boc_program.specs.Cowns.{freed}
use Rattle.boc_runs.specs.declared.rows.Row.{Row}
use Rattle.boc_runs.specs.Rows.{IsLast, parent_of, offset_of, ticks_of}

-- the rows with one row's offset replaced and nothing else; the same rows where there is no such row
abbrev pub moved : List Row → ℕ → ℕ → List Row
moved [] row offset = []
moved (x ∷ rows) zero offset = record x { offset = offset } ∷ rows
moved (x ∷ rows) (suc row) offset = x ∷ moved rows row offset

-- row r is there and isn't main, and it can be spawned at this tick of its parent: above its elder sibling's offset, 1 at least, below its younger
-- sibling's offset, and at most its parent's ticks
pub record FitsAt (rows : List Row) (row offset : ℕ) : Type 0 where
  pub child : 0 < row
  pub there : row < length rows
  pub above : 0 < offset
  pub after_elder : (a : ℕ) → 0 < a → a < row → parent_of rows a ≡ parent_of rows row → offset_of rows a < offset
  pub before_younger : (b : ℕ) → row < b → b < length rows → parent_of rows b ≡ parent_of rows row → offset < offset_of rows b
  pub within : offset ≤ ticks_of rows (parent_of rows row)

-- so many ticks times over / under, rounded up
abbrev pub part_of : ℕ → ℕ → ℕ → ℕ
part_of over under ticks = div_ceil (ticks * over) under

-- the same row but for its offset and its ticks
abbrev pub IsSameBut : Option Row → Option Row → Type 0
IsSameBut (Some x) (Some y) = y ≡ record x { offset = y.offset; ticks = y.ticks }
IsSameBut None None = Unit {0}
IsSameBut (Some x) None = ⊥
IsSameBut None (Some y) = ⊥

-- a row other than main, which this row spawned
abbrev pub IsChildOf : List Row → ℕ → ℕ → Type 0
IsChildOf rows row b = (0 < b) × (b < length rows) × (parent_of rows b ≡ row)

-- The rows in which one row costs over / under of what it did, and spawns its children so much sooner or later. Its ticks and its children's offsets
-- are that part of theirs, rounded up. An offset is above the elder sibling's at any rate, and the ticks are 1 at least, and no fewer than the last
-- child's offset. Nothing else changes.
pub record IsScaled (rows : List Row) (row over under : ℕ) (after : List Row) : Type 0 where
  pub whole : length after ≡ length rows
  pub same : (r : ℕ) → IsSameBut (slice_get rows r) (slice_get after r)
  pub offsets : (b elder : ℕ) → IsChildOf rows row b → IsLast after b row elder → offset_of after b ≡ max (part_of over under (offset_of rows b)) (elder + 1)
  pub other_offsets : (b : ℕ) → (IsChildOf rows row b → ⊥) → offset_of after b ≡ offset_of rows b
  pub ticks : (last : ℕ) → IsLast after (length after) row last → ticks_of after row ≡ max (max 1 (part_of over under (ticks_of rows row))) last
  pub other_ticks : (r : ℕ) → r ≢ row → ticks_of after r ≡ ticks_of rows r

-- a row that neither has nor wrote a cown
abbrev pub freed_row : ℕ → Row → Row
freed_row cown x = record x { cowns = freed cown x.cowns; written = freed cown x.written }

-- the rows, none of which has a cown: no two are ordered for its sake
abbrev pub without : ℕ → List Row → List Row
without cown rows = map (freed_row cown) rows
