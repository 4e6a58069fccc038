-- What a window of a stream has to do with it.
use Rattle.std.specs.Prelude.{◌≡◌, ◌⊎◌, ℕ, ◌<◌, ◌≤◌, List, [], ◌++◌, length, codes, Option, Some, None, slice_get, slice_index, slice_range, map}
use Rattle.std.specs.List.{Contains}
use Rattle.boc_runs.specs.declared.rows.Row.{Row as Kept}
use Rattle.boc_runs.specs.Rows.{cowns_of}
use Rattle.boc_record.specs.RecordTexts.{line}
use Rattle.boc_stream.specs.declared.told.Told.TheVariants.{Spawn}
use Rattle.boc_stream.specs.StreamTexts.{told_line}
use Rattle.boc_cut.specs.declared.table.Row.{Row}
use Rattle.boc_cut.specs.declared.table.CownUse.{CownUse}

-- ---- the rows of a table

-- one of the uses is of this cown
abbrev pub HasCown : List CownUse → ℕ → Type 0
HasCown uses cown = (place : ℕ) × (used : CownUse) × (slice_get uses place ≡ Some used) × (used.cown ≡ cown)

-- the cowns of a row of a record, by the cowns of the stream that they are, are among those that are used
abbrev pub AreKeptOf : List ℕ → List CownUse → List ℕ → Type 0
AreKeptOf kept uses held = (place : ℕ) → place < length held
    → (slice_index held place < length kept) × HasCown uses (slice_index kept (slice_index held place))

-- a row with these cowns is this row of the table, over some of its cowns; or no row of it, without cowns
abbrev pub ComesFrom : List Row → List CownUse → List ℕ → List ℕ → Option ℕ → Type 0
ComesFrom rows uses kept held None = held ≡ []
ComesFrom rows uses kept held (Some number) = (place : ℕ) × (row : Row) × (slice_get rows place ≡ Some row) × (row.number ≡ number)
    × (row.from ≤ row.to) × (row.to ≤ length uses) × AreKeptOf kept (slice_range uses row.from row.to) held

-- numbers of rows rise, where there are some
abbrev pub Rise : List (Option ℕ) → Type 0
Rise origins = (row later number other : ℕ) → row < later → slice_get origins row ≡ Some (Some number) → slice_get origins later ≡ Some (Some other)
    → number < other

-- each row of a record comes from the table, in its order
pub record AreOrigins (rows : List Row) (uses : List CownUse) (kept : List ℕ) (made : List Kept) (origins : List (Option ℕ)) : Type 0 where
  pub all : length origins ≡ length made
  pub each : (row : ℕ) (origin : Option ℕ) → slice_get origins row ≡ Some origin → ComesFrom rows uses kept (cowns_of made row) origin
  pub rising : Rise origins

-- ---- the text of a stream

-- a text is empty, or ends with a line feed
abbrev pub EndsLine : List ℕ → Type 0
EndsLine text = (text ≡ []) ⊎ ((front : List ℕ) × (text ≡ front ++ codes "\n"))

-- one of the lines of a text spawns the row of this number, over these cowns
pub record Spawns (text : List ℕ) (number : ℕ) (cowns : List ℕ) : Type 0 where
  pub parent : ℕ
  pub offset : ℕ
  pub before : List ℕ
  pub after : List ℕ
  pub begins : EndsLine before
  pub is : text ≡ before ++ line (told_line (Spawn number parent offset) cowns) ++ after

-- the cowns that are used
abbrev pub cowns_used : List CownUse → List ℕ
cowns_used uses = map (λ u. u.cown) uses

-- a row has its cowns among those of the table, and was spawned over them by a line of the text
pub record IsSpawned (text : List ℕ) (uses : List CownUse) (row : Row) : Type 0 where
  pub rises : row.from ≤ row.to
  pub within : row.to ≤ length uses
  pub by : Spawns text row.number (cowns_used (slice_range uses row.from row.to))

-- Each row of a table was spawned by a line of the text, over its cowns. This is what the table keeps while the text is read, and by it the order of a window
-- is that of the stream.
abbrev pub AreSpawned : List ℕ → List Row → List CownUse → Type 0
AreSpawned text rows uses = (place : ℕ) (row : Row) → slice_get rows place ≡ Some row → IsSpawned text uses row

-- two lists have an element in common
abbrev pub Meet : List ℕ → List ℕ → Type 0
Meet xs ys = (x : ℕ) × Contains xs x × Contains ys x

-- Two rows of a window that share a cown are rows of the stream that share one, and the one that is first in the window is spawned first.
abbrev pub HasOrderOf : List ℕ → List Kept → List (Option ℕ) → Type 0
HasOrderOf text made origins = (row later : ℕ) → row < later → Meet (cowns_of made row) (cowns_of made later)
    → (number other : ℕ) × (cowns others : List ℕ) × (slice_get origins row ≡ Some (Some number)) × (slice_get origins later ≡ Some (Some other))
    × (number < other) × Spawns text number cowns × Spawns text other others × Meet cowns others

-- Where nothing was left out by weight, rows that share a cown in the stream share one in the window.
abbrev pub HasAllOrderOf : List ℕ → List Kept → List (Option ℕ) → Type 0
HasAllOrderOf text made origins = (row later number other : ℕ) (cowns others : List ℕ) → row < later → slice_get origins row ≡ Some (Some number)
    → slice_get origins later ≡ Some (Some other) → Spawns text number cowns → Spawns text other others → Meet cowns others
    → Meet (cowns_of made row) (cowns_of made later)
