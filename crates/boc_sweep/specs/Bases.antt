-- Which rows a sweep leaves out, since the span stays the same, and the bases of the others.
use Rattle.std.specs.Prelude.{◌≡◌, ℕ, ◌+◌, ◌<◌, ◌≤◌, ◌⊎◌, max, List, length, slice_index}
use Rattle.boc_runs.specs.declared.rows.Row.{Row}
use Rattle.boc_runs.specs.Rows.{parent_of, offset_of, ticks_of}
use Rattle.boc_plans.specs.Plans.{start_of}
use Rattle.boc_order.specs.Waits.{HasWaits}
use Rattle.boc_sweep.specs.declared.windows.Stretch.{Stretch}
use Rattle.boc_sweep.specs.declared.sweeping.Cut.{Cut}
use Rattle.boc_sweep.specs.declared.chosen.Chosen.{Chosen}
use Rattle.boc_sweep.specs.Tops.{AreTops}
use Rattle.boc_sweep.specs.Crossing.{AreCrossing, IsLatestEnd}
use Rattle.boc_sweep.specs.Spawns.{IsReadyAt}

-- the greater of a way over a row's cut and the latest end of a row before it
pub record IsBaseOver (rows : List Row) (starts : List ℕ) (row own base : ℕ) : Type 0 where
  pub latest : ℕ
  pub is_latest : IsLatestEnd rows starts row latest
  pub is : base ≡ max own latest

-- the row takes no more than its least ticks, or no heaviest way leads from its start to its end
abbrev pub IsLeastLeft : List Row → List ℕ → List ℕ → List ℕ → List ℕ → ℕ → Type 0
IsLeastLeft rows lasts starts from_starts from_ends row = (ticks_of rows row ≤ max 1 (slice_index lasts row))
    ⊎ (start_of starts row + ticks_of rows row + slice_index from_ends row < slice_index from_starts 0)

-- the heaviest way over a row's cut by the row at its least ticks, or by the end of a row before it
abbrev pub IsLeastBase : List Row → List ℕ → List ℕ → List ℕ → ℕ → ℕ → Type 0
IsLeastBase rows lasts starts from_ends row base =
    IsBaseOver rows starts row (start_of starts row + max 1 (slice_index lasts row) + slice_index from_ends row) base

-- the row is spawned as early as it can be, or no heaviest way leads over its spawn
abbrev pub IsEarlyLeft : List Row → List ℕ → List ℕ → List ℕ → ℕ → Type 0
IsEarlyLeft rows elders starts from_starts row = 0 < row → (offset_of rows row ≤ slice_index elders row + 1)
    ⊎ (start_of starts (parent_of rows row) + offset_of rows row + slice_index from_starts row < slice_index from_starts 0)

-- the heaviest way over the cut before a row's start by the row spawned as early as it can be, or by the end of a row before it
pub record IsEarlyBase (rows : List Row) (elders starts ends from_starts : List ℕ) (row base : ℕ) : Type 0 where
  pub child : 0 < row
  pub waits : List ℕ
  pub has_waits : HasWaits rows row waits
  pub ready : ℕ
  pub is_ready : IsReadyAt (start_of starts (parent_of rows row) + (slice_index elders row + 1)) waits ends ready
  pub over : IsBaseOver rows starts row (ready + slice_index from_starts row) base

-- for each chosen row the heaviest way over its cut by a spawn or a wait of another row, unless the least base is as heavy
pub record AreTopsOver (cut : Cut) (rows : List Row) (starts tails : List ℕ) (chosen : Chosen) (tops : List ℕ) : Type 0 where
  pub stretches : List Stretch
  pub crossing : AreCrossing cut rows starts tails chosen (length rows) stretches
  pub tops_are : AreTops stretches (length chosen.bases.items) tops
