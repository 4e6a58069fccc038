-- On the way to rows with typical ticks: the new offsets, and the rows made of them.
use Rattle.std.specs.Prelude.{◌≡◌, ℕ, ◌+◌, ◌<◌, ◌≤◌, ◌⊎◌, max, List, length, Some, slice_get, slice_index}
use Rattle.boc_program.specs.declared.limits.TheConstants.{MOST_TICKS}
use Rattle.boc_runs.specs.declared.rows.Row.{Row}
use Rattle.boc_runs.specs.Rows.{parent_of, offset_of, ticks_of}
use Rattle.boc_runs.specs.Changes.{part_of}

-- for each row what stands in the table at its def
pub record AreMiddlesBy (defs typical middles : List ℕ) : Type 0 where
  pub whole : length middles ≡ length defs
  pub each : (r : ℕ) → r < length defs → slice_index middles r ≡ slice_index typical (slice_index defs r)

-- for each row the ticks that it is to take, within the limits
pub record AreMiddles (rows : List Row) (middles : List ℕ) : Type 0 where
  pub whole : length middles ≡ length rows
  pub low : (r : ℕ) → r < length rows → 0 < slice_index middles r
  pub high : (r : ℕ) → r < length rows → slice_index middles r ≤ MOST_TICKS

-- the greatest of the offsets that row p's children among the first n rows are to have, and 0 where there is none
pub record IsLastIn (rows : List Row) (offset : ℕ → ℕ) (n p last : ℕ) : Type 0 where
  pub none_above : (a : ℕ) → 0 < a → a < n → parent_of rows a ≡ p → offset a ≤ last
  pub reached : (last ≡ 0) ⊎ ((a : ℕ) × (0 < a) × (a < n) × (parent_of rows a ≡ p) × (offset a ≡ last))

-- the offset of row b times the ticks that its parent is to take, by those that it took, rounded up
abbrev pub spread : List Row → (ℕ → ℕ) → ℕ → ℕ
spread rows middle b = part_of (middle (parent_of rows b)) (ticks_of rows (parent_of rows b)) (offset_of rows b)

-- the offset that row b is to have, and its elder sibling's
pub record IsOffset (rows : List Row) (middle offset : ℕ → ℕ) (b : ℕ) : Type 0 where
  pub elder : ℕ
  pub elder_is : IsLastIn rows offset b (parent_of rows b) elder
  pub is : offset b ≡ max (spread rows middle b) (elder + 1)

-- the offsets of the first n rows, and for each row that of its last child among them
pub record AreOffsetsTo (rows : List Row) (middles : List ℕ) (n : ℕ) (offsets lasts : List ℕ) : Type 0 where
  pub whole : length offsets ≡ n
  pub main : slice_index offsets 0 ≡ 0
  pub each : (b : ℕ) → 0 < b → b < n → IsOffset rows (slice_index middles) (slice_index offsets) b
  pub lasts_whole : length lasts ≡ length rows
  pub lasts_are : (p : ℕ) → IsLastIn rows (slice_index offsets) n p (slice_index lasts p)

-- the offsets of all rows, and for each that of its last child
abbrev pub AreOffsets : List Row → List ℕ → List ℕ → List ℕ → Type 0
AreOffsets rows middles offsets lasts = AreOffsetsTo rows middles (length rows) offsets lasts

-- the first n rows with these offsets, and with these ticks or those that their last children need
pub record AreTimedTo (rows : List Row) (middles offsets lasts : List ℕ) (n : ℕ) (list : List Row) : Type 0 where
  pub whole : length list ≡ n
  pub each : (r : ℕ) (x : Row) → r < n → slice_get rows r ≡ Some x
      → slice_get list r ≡ Some (record x { offset = slice_index offsets r; ticks = max (slice_index middles r) (slice_index lasts r) })

-- all rows with these offsets and ticks
abbrev pub AreTimed : List Row → List ℕ → List ℕ → List ℕ → List Row → Type 0
AreTimed rows middles offsets lasts list = AreTimedTo rows middles offsets lasts (length rows) list
