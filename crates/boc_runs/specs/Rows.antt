-- The shape of the rows of a record.
use Rattle.std.specs.Prelude.{◌≡◌, ℕ, zero, suc, ◌<◌, ◌≤◌, ◌⊎◌, List, [], ◌∷◌, length, All, slice_get}
use Rattle.boc_program.specs.declared.limits.TheConstants.{MOST_COWNS, MOST_ROWS, MOST_TICKS}
use Rattle.std.specs.Option.{option_map_or}
use Rattle.std.specs.List.Sorted.{IsStrictlyIncreasing}
use Rattle.boc_runs.specs.declared.rows.Row.{Row}
use Rattle.boc_program.specs.Cowns.{AreCowns, AreAmong}

-- the number of a row's parent; this and the next four are 0, or the empty list, at a number that no row has
abbrev pub parent_of : List Row → ℕ → ℕ
parent_of rows r = option_map_or (λ x. x.parent) (slice_get rows r) 0

-- the ticks that a row's parent had counted when it spawned the row
abbrev pub offset_of : List Row → ℕ → ℕ
offset_of rows r = option_map_or (λ x. x.offset) (slice_get rows r) 0

-- the ticks that a row took
abbrev pub ticks_of : List Row → ℕ → ℕ
ticks_of rows r = option_map_or (λ x. x.ticks) (slice_get rows r) 0

-- the cowns of a row
abbrev pub cowns_of : List Row → ℕ → List ℕ
cowns_of rows r = option_map_or (λ x. x.cowns.items) (slice_get rows r) []

-- those of its cowns that a row wrote
abbrev pub written_of : List Row → ℕ → List ℕ
written_of rows r = option_map_or (λ x. x.written.items) (slice_get rows r) []

-- the rows of some record, main first
pub record IsRows (rows : List Row) : Type 0 where
  pub not_empty : 0 < length rows
  pub not_many : length rows ≤ MOST_ROWS
  pub cowns_rise : (r : ℕ) → r < length rows → IsStrictlyIncreasing (cowns_of rows r)
  pub cowns_below : (r : ℕ) → r < length rows → All (λ c. c < MOST_COWNS) (cowns_of rows r)
  pub written_own : (r : ℕ) → r < length rows → AreAmong (cowns_of rows r) (written_of rows r)
  pub main_parent : parent_of rows 0 ≡ 0
  pub main_offset : offset_of rows 0 ≡ 0
  pub main_cowns : cowns_of rows 0 ≡ []
  pub parent_before : (r : ℕ) → 0 < r → r < length rows → parent_of rows r < r
  pub offset_above : (r : ℕ) → 0 < r → r < length rows → 0 < offset_of rows r
  pub offsets_rise : (a b : ℕ) → 0 < a → a < b → b < length rows → parent_of rows a ≡ parent_of rows b →
      offset_of rows a < offset_of rows b
  pub ticks_low : (r : ℕ) → r < length rows → 0 < ticks_of rows r
  pub ticks_high : (r : ℕ) → r < length rows → ticks_of rows r ≤ MOST_TICKS
  pub ticks_cover : (r : ℕ) → 0 < r → r < length rows → offset_of rows r ≤ ticks_of rows (parent_of rows r)

-- row r can stand after those before it as a child of one of them
pub record IsFitChild (rows : List Row) (r : ℕ) : Type 0 where
  pub parent_before : parent_of rows r < r
  pub offset_above : 0 < offset_of rows r
  pub ticks_cover : offset_of rows r ≤ ticks_of rows (parent_of rows r)
  pub offsets_rise : (a : ℕ) → 0 < a → a < r → parent_of rows a ≡ parent_of rows r → offset_of rows a < offset_of rows r

-- row r can stand after those before it
pub record IsFit (rows : List Row) (r : ℕ) : Type 0 where
  pub cowns : AreCowns MOST_COWNS (cowns_of rows r)
  pub written : AreAmong (cowns_of rows r) (written_of rows r)
  pub ticks_low : 0 < ticks_of rows r
  pub ticks_high : ticks_of rows r ≤ MOST_TICKS
  pub main : r ≡ 0 → (parent_of rows r ≡ 0) × (offset_of rows r ≡ 0) × (cowns_of rows r ≡ [])
  pub child : 0 < r → IsFitChild rows r

-- the greatest offset of row p's children among the first n rows, and 0 where there is none
pub record IsLast (rows : List Row) (n p last : ℕ) : Type 0 where
  pub none_above : (a : ℕ) → 0 < a → a < n → parent_of rows a ≡ p → offset_of rows a ≤ last
  pub reached : (last ≡ 0) ⊎ ((a : ℕ) × (0 < a) × (a < n) × (parent_of rows a ≡ p) × (offset_of rows a ≡ last))

-- the rows with one row's ticks replaced and nothing else; the same rows where there is no such row
abbrev pub edited : List Row → ℕ → ℕ → List Row
edited [] row ticks = []
edited (x ∷ rows) zero ticks = record x { ticks = ticks } ∷ rows
edited (x ∷ rows) (suc row) ticks = x ∷ edited rows row ticks

-- the row is there and can take these ticks: 1 to 1,000,000, and no fewer than the offset of its last child
pub record Fits (rows : List Row) (row ticks : ℕ) : Type 0 where
  pub there : row < length rows
  pub low : 1 ≤ ticks
  pub high : ticks ≤ MOST_TICKS
  pub last : ℕ
  pub is_last : IsLast rows (length rows) row last
  pub covers : last ≤ ticks
