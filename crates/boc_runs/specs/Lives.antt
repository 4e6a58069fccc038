-- What becomes of the rows of a run, and which of them can start.
use Rattle.std.specs.Prelude.{◌≡◌, ℕ, ◌<◌, List, Option, Some}
use Rattle.std.specs.List.{Contains}

-- what has become of a row so far
pub data Life : Type 0 where
  Pending : Life
  Running : Life
  Ended : Life

-- rows a and b have a cown in common
abbrev pub Overlap : (ℕ → List ℕ) → ℕ → ℕ → Type 0
Overlap cowns a b = (c : ℕ) × Contains (cowns a) c × Contains (cowns b) c

-- a row that can start: it is pending, and shares no cown with a running row or with an earlier pending one
pub record MayStart (life : ℕ → Option Life) (cowns : ℕ → List ℕ) (row : ℕ) : Type 0 where
  pub waits : life row ≡ Some Pending
  pub none_running : (other : ℕ) → life other ≡ Some Running → Overlap cowns row other → ⊥
  pub none_earlier : (other : ℕ) → other < row → life other ≡ Some Pending → Overlap cowns row other → ⊥

-- of so many rows there is one, and every one has ended
pub record AreOver (count : ℕ) (life : ℕ → Option Life) : Type 0 where
  pub some : 0 < count
  pub ended : (r : ℕ) → r < count → life r ≡ Some Ended
