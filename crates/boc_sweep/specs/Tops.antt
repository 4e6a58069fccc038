-- For each place the greatest value of the stretches that hold it.
use Rattle.std.specs.Prelude.{◌≡◌, ℕ, ◌+◌, ◌^◌, ◌<◌, ◌≤◌, ◌⊎◌, List, [], length, map, take, slice_index, slice_index_or}
use Rattle.std.specs.List.{Contains}
use Rattle.std.specs.declared.vec.Vec.{Vec}
use Rattle.std.specs.declared.alloc.Global.{Global}
use Rattle.boc_sweep.specs.declared.windows.Stretch.{Stretch}

-- each place from the stretch's first to before its last lies in a window of this size, whose value is no smaller
abbrev pub IsCovered : ℕ → ℕ → (ℕ → ℕ) → Stretch → Type 0
IsCovered n size values r = (v : ℕ) → r.low ≤ v → v < r.high → (j : ℕ) × (j ≤ v) × (v < j + size) × (j < n) × (r.value ≤ values j)

-- a window of this size has the value of a stretch that holds all of it, or 0
abbrev pub IsHeld : List Stretch → ℕ → ℕ → ℕ → Type 0
IsHeld stretches size j value = (value ≡ 0) ⊎ ((r : Stretch) × Contains stretches r × (r.low ≤ j) × (j + size ≤ r.high) × (value ≡ r.value))

-- the windows of this size, one from each place on, cover the stretches that are no shorter than some length
pub record AreWindows (stretches : List Stretch) (n size shortest : ℕ) (values : ℕ → ℕ) : Type 0 where
  pub sound : (j : ℕ) → j < n → IsHeld stretches size j (values j)
  pub complete : (r : Stretch) → Contains stretches r → r.low + shortest ≤ r.high → IsCovered n size values r

-- What windows of one size became, where the first k of some stretches raised them: none fell, each that rose has the value of a stretch that holds all
-- of it, and they cover those stretches.
pub record HasRaised (stretches : List Stretch) (size : ℕ) (old : List ℕ) (k : ℕ) (new : List ℕ) : Type 0 where
  pub grows : (j : ℕ) → slice_index old j ≤ slice_index new j
  pub held : (j : ℕ) → j < length old → (slice_index new j ≡ slice_index old j) ⊎ IsHeld stretches size j (slice_index new j)
  pub covered : (r : Stretch) → Contains (take k stretches) r → IsCovered (length old) size (slice_index new) r

-- lists of stretches
abbrev pub lists_of : List (Vec Stretch Global) → List (List Stretch)
lists_of lists = map (λ list. list.items) lists

-- the list at a place
abbrev pub list_at : List (Vec Stretch Global) → ℕ → List Stretch
list_at lists k = slice_index_or (lists_of lists) k []

-- the ones are those of all stretches that have so many places and more, but fewer than twice as many
pub record AreOfLength (all some : List Stretch) (size : ℕ) : Type 0 where
  pub sound : (r : Stretch) → Contains some r → Contains all r
  pub long : (r : Stretch) → Contains some r → r.low + size ≤ r.high
  pub short : (r : Stretch) → Contains some r → r.high < r.low + (size + size)
  pub complete : (r : Stretch) → Contains all r → r.low + size ≤ r.high → r.high < r.low + (size + size) → Contains some r

-- stretches by their length: at place k those of 2 ^ k places and more, but of fewer than twice as many
abbrev pub AreByLength : List Stretch → (ℕ → List Stretch) → Type 0
AreByLength all lists = (k : ℕ) → AreOfLength all (lists k) (2 ^ k)

-- for each of n places the greatest value of the stretches that hold it, and 0 where there is none
pub record AreTops (stretches : List Stretch) (n : ℕ) (tops : List ℕ) : Type 0 where
  pub whole : length tops ≡ n
  pub above : (r : Stretch) → Contains stretches r → (v : ℕ) → r.low ≤ v → v < r.high → r.value ≤ slice_index tops v
  pub reached : (v : ℕ) → v < n → (slice_index tops v ≡ 0)
      ⊎ ((r : Stretch) × Contains stretches r × (r.low ≤ v) × (v < r.high) × (slice_index tops v ≡ r.value))
