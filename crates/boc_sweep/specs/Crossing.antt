-- The links that lead over the cuts of rows, as stretches of those rows.
use Rattle.std.specs.Prelude.{◌≡◌, ℕ, ◌+◌, ◌<◌, ◌≤◌, ◌⊎◌, List, length, slice_index}
use Rattle.std.specs.List.{Contains}
use Rattle.boc_runs.specs.declared.rows.Row.{Row}
use Rattle.boc_runs.specs.Rows.{offset_of}
use Rattle.boc_plans.specs.Plans.{start_of, end_of, IsChild}
use Rattle.boc_sweep.specs.declared.windows.Stretch.{Stretch}
use Rattle.boc_order.specs.Waits.{IsNear}
use Rattle.boc_sweep.specs.declared.sweeping.Cut.{Cut}
use Rattle.boc_sweep.specs.declared.chosen.Chosen.{Chosen}
use Rattle.boc_sweep.specs.Cuts.{first_cut, Crosses}
use Rattle.boc_sweep.specs.Chosen.{IsChosen, IsNoted, placed}

-- the rows over whose cuts a spawn leads, and the weight of the heaviest way over it
abbrev pub spawn_stretch : Cut → List Row → List ℕ → List ℕ → ℕ → ℕ → Stretch
spawn_stretch cut rows starts tails a b = record { low = first_cut cut a; high = b; value = start_of starts a + offset_of rows b + slice_index tails b }

-- the same of a wait of row b, which has this tail, for row a, which ends at this tick
abbrev pub wait_stretch : ℕ → ℕ → ℕ → ℕ → Stretch
wait_stretch end a tail b = record { low = a + 1; high = b; value = end + tail }

-- the stretches of chosen rows by the spawns and the waits of the rows before row k
pub record AreCrossing (cut : Cut) (rows : List Row) (starts tails : List ℕ) (chosen : Chosen) (k : ℕ) (stretches : List Stretch) : Type 0 where
  pub inside : (r : Stretch) → Contains stretches r → r.high ≤ length chosen.bases.items
  pub sound : (r : Stretch) → Contains stretches r → (v : ℕ) → v < length rows → IsChosen chosen.before.items v
      → r.low ≤ slice_index chosen.before.items v → slice_index chosen.before.items v < r.high → Crosses cut rows starts tails v r.value
  pub spawns : (a b : ℕ) → IsChild rows a b → b < k → IsNoted chosen stretches (spawn_stretch cut rows starts tails a b)
  pub waits : (a b : ℕ) → b < k → IsNear rows a b → IsNoted chosen stretches (wait_stretch (end_of rows starts a) a (slice_index tails b) b)

-- the stretches, once the first k waits of a row with this tail are noted among them
pub record ArePushed (waits : List ℕ) (row tail : ℕ) (ends : List ℕ) (chosen : Chosen) (old : List Stretch) (k : ℕ) (new : List Stretch) : Type 0 where
  pub kept : (r : Stretch) → Contains old r → Contains new r
  pub more : (i : ℕ) → i < k → IsNoted chosen new (wait_stretch (slice_index ends (slice_index waits i)) (slice_index waits i) tail row)
  pub only : (r : Stretch) → Contains new r → Contains old r ⊎ ((i : ℕ) × (i < length waits)
      × (r ≡ placed chosen.before.items (wait_stretch (slice_index ends (slice_index waits i)) (slice_index waits i) tail row)))

-- the latest end among the first n rows, and 0 where there are none
pub record IsLatestEnd (rows : List Row) (starts : List ℕ) (n latest : ℕ) : Type 0 where
  pub above : (a : ℕ) → a < n → end_of rows starts a ≤ latest
  pub reached : (latest ≡ 0) ⊎ ((a : ℕ) × (a < n) × (end_of rows starts a ≡ latest))
