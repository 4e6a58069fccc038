-- The rows whose spans are looked for one by one, and the stretches of them.
use Rattle.std.specs.Prelude.{◌≡◌, ℕ, ◌+◌, ◌<◌, ◌≤◌, ◌⊎◌, max, List, [], ◌∷◌, ◌++◌, length, Option, Some, None, slice_index, vec_capacity}
use Rattle.std.specs.List.{Contains}
use Rattle.boc_sweep.specs.declared.windows.Stretch.{Stretch}
use Rattle.boc_sweep.specs.declared.chosen.Chosen.{Chosen}
use Rattle.boc_sweep.specs.declared.chosen.Parts.{Parts}

-- a row is chosen where one more is before the next
abbrev pub IsChosen : List ℕ → ℕ → Type 0
IsChosen before row = slice_index before row < slice_index before (row + 1)

-- how many of the first n rows are chosen is counted before each
pub record AreCounted (n : ℕ) (chosen : Chosen) : Type 0 where
  pub whole : length chosen.before.items ≡ n + 1
  pub counted : slice_index chosen.before.items n ≡ length chosen.bases.items
  pub few : length chosen.bases.items ≤ n
  pub rises : (row : ℕ) → row < n → slice_index chosen.before.items row ≤ slice_index chosen.before.items (row + 1)

-- the first n rows, of which some are chosen: what is known of one that is left out, and the base of one that is chosen
pub record AreChosen (Left : ℕ → Type 0) (IsBase : ℕ → ℕ → Type 0) (n : ℕ) (chosen : Chosen) : Type 0 where
  pub counts : AreCounted n chosen
  pub left : (row : ℕ) → row < n → slice_index chosen.before.items (row + 1) ≤ slice_index chosen.before.items row → Left row
  pub at : (row : ℕ) → row < n → IsChosen chosen.before.items row → IsBase row (slice_index chosen.bases.items (slice_index chosen.before.items row))
  pub low : (place : ℕ) → place < length chosen.bases.items → chosen.floor ≤ slice_index chosen.bases.items place

-- a row has a base, or is left out
abbrev pub IsChoice : Type 0 → (ℕ → Type 0) → Option ℕ → Type 0
IsChoice Left IsBase None = Left
IsChoice Left IsBase (Some base) = IsBase base

-- there is space for so many rows
abbrev pub HasRoom : ℕ → Chosen → Type 0
HasRoom count chosen = (count < vec_capacity chosen.before) × (count ≤ vec_capacity chosen.bases)

-- what is appended where a row has a base, and where it has none
abbrev pub listed : Option ℕ → List ℕ
listed None = []
listed (Some base) = base ∷ []

-- the base of a row, if it has one, is no less than this
abbrev pub IsAbove : ℕ → Option ℕ → Type 0
IsAbove floor None = Unit {0}
IsAbove floor (Some base) = floor ≤ base

-- one more row is chosen, with this base, or is left out
pub record IsPut (old : Chosen) (base : Option ℕ) (new : Chosen) : Type 0 where
  pub bases : new.bases.items ≡ old.bases.items ++ listed base
  pub before : new.before.items ≡ old.before.items ++ length new.bases.items ∷ []
  pub falls : new.floor ≤ old.floor
  pub low : IsAbove new.floor base
  pub bases_room : vec_capacity new.bases ≡ vec_capacity old.bases
  pub before_room : vec_capacity new.before ≡ vec_capacity old.before

-- a stretch of rows, as one of those among them that are chosen
abbrev pub placed : List ℕ → Stretch → Stretch
placed before s = record { low = slice_index before s.low; high = slice_index before s.high; value = s.value }

-- a stretch of rows is among the stretches of chosen rows, unless it has none of them, or is no heavier than the least base
abbrev pub IsNoted : Chosen → List Stretch → Stretch → Type 0
IsNoted chosen stretches s = (s.value ≤ chosen.floor)
    ⊎ ((slice_index chosen.before.items s.high ≤ slice_index chosen.before.items s.low) ⊎ Contains stretches (placed chosen.before.items s))

-- the stretches, once a stretch of rows is noted among them
pub record HasPushed (chosen : Chosen) (s : Stretch) (old new : List Stretch) : Type 0 where
  pub kept : (r : Stretch) → Contains old r → Contains new r
  pub more : IsNoted chosen new s
  pub only : (r : Stretch) → Contains new r → Contains old r ⊎ (r ≡ placed chosen.before.items s)

-- a row's span can be read: it is one of the rows that are counted, and has a base and a top if it is chosen
pub record IsReadable (parts : Parts) (row : ℕ) : Type 0 where
  pub there : row + 1 < length parts.chosen.now.before.items
  pub based : IsChosen parts.chosen.now.before.items row → slice_index parts.chosen.now.before.items row < length parts.chosen.now.bases.items
  pub topped : length parts.tops.now ≡ length parts.chosen.now.bases.items

-- a row's span as it is read: of one that is chosen the greater of its base and of the stretches over its cut, of another the span of all rows
pub record IsRead (parts : Parts) (row span : ℕ) : Type 0 where
  pub chosen : IsChosen parts.chosen.now.before.items row → let place = slice_index parts.chosen.now.before.items row in
      span ≡ max (slice_index parts.chosen.now.bases.items place) (slice_index parts.tops.now place)
  pub left : slice_index parts.chosen.now.before.items (row + 1) ≤ slice_index parts.chosen.now.before.items row → span ≡ parts.span

-- the spans of the first n rows are read from these parts
pub record AreParts (IsSpanOf : ℕ → ℕ → Type 0) (n : ℕ) (parts : Parts) : Type 0 where
  pub whole : length parts.chosen.now.before.items ≡ n + 1
  pub based : (row : ℕ) → row < n → IsChosen parts.chosen.now.before.items row
      → slice_index parts.chosen.now.before.items row < length parts.chosen.now.bases.items
  pub topped : length parts.tops.now ≡ length parts.chosen.now.bases.items
  pub at : (row span : ℕ) → row < n → IsRead parts row span → IsSpanOf row span
