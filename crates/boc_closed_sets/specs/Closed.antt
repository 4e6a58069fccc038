-- Closed sets of live rows.
use Rattle.std.specs.Prelude.{◌≡◌, ◌⊎◌, ℕ, ◌<◌, List, ◌∷◌, Some, slice_get}
use Rattle.std.specs.List.{Contains}
use Rattle.boc_runs.specs.Serial.{Behaviour}
use Rattle.boc_runs.specs.machine.Queues.{times}
use Rattle.boc_fronts.specs.Fronts.{LiveRow, Front, IsFree}
use Rattle.boc_closed_sets.specs.Footprints.{IsInFootprint}

-- A set of places of a front is closed for these footprints: one of the places is free; the cowns of the first wish of each free one are in no footprint of a
-- wish at a place outside; and a place before each one that is not free is among them.
pub record IsClosedFor (footprint : Behaviour → ℕ → Type 0) (f : Front) (inside : List ℕ) : Type 0 where
  pub some : (i : ℕ) × Contains inside i × IsFree f i
  pub apart : (i j c : ℕ) (row other : LiveRow) (wish far : Behaviour) (rest : List Behaviour)
      → Contains inside i → IsFree f i → slice_get f.live i ≡ Some row → row.wishes ≡ wish ∷ rest
      → (Contains inside j → ⊥) → slice_get f.live j ≡ Some other → Contains other.wishes far
      → 0 < times c wish.cowns → footprint far c → ⊥
  pub behind : (i : ℕ) (row : LiveRow) → Contains inside i → slice_get f.live i ≡ Some row
      → IsFree f i ⊎ ((j : ℕ) × Contains inside j × Contains row.before j)

-- the same for footprints by kinds
abbrev pub IsClosedSet : (ℕ → ℕ → Type 0) → Front → List ℕ → Type 0
IsClosedSet reach = IsClosedFor (IsInFootprint reach)
