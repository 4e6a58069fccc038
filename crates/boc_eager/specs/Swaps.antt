-- Where a plan goes otherwise than in the order of the rows' numbers.
use Rattle.std.specs.Prelude.{◌≡◌, ◌⊎◌, ◌<◌, ◌≤◌, ℕ, List, length, Option, Some, None}
use Rattle.boc_runs.specs.declared.rows.Row.{Row}
use Rattle.boc_plans.specs.Plans.{ConflictOn, Ordered, start_of}
use Rattle.boc_eager.specs.declared.swap.Swap.{Swap}

-- row b goes ahead of row a: it starts sooner, though it has the higher number, and they conflict over some cown
pub record GoesAhead (rows : List Row) (plan : List ℕ) (a b : ℕ) : Type 0 where
  pub there : b < length rows
  pub ordered : Ordered rows a b
  pub sooner : start_of plan b < start_of plan a

-- row b goes ahead of some row
abbrev pub IsAhead : List Row → List ℕ → ℕ → Type 0
IsAhead rows plan b = (a : ℕ) × GoesAhead rows plan a b

-- row b starts sooner than row r, or at the same tick with no higher number
abbrev pub StartsFirst : List ℕ → ℕ → ℕ → Type 0
StartsFirst plan b r = (start_of plan b < start_of plan r) ⊎ ((start_of plan b ≡ start_of plan r) × (b ≤ r))

-- the row that starts first of those that go ahead of some row, or none where none does
abbrev pub IsFirstAhead : List Row → List ℕ → Option ℕ → Type 0
IsFirstAhead rows plan (Some b) = IsAhead rows plan b × ((r : ℕ) → IsAhead rows plan r → StartsFirst plan b r)
IsFirstAhead rows plan None = (r : ℕ) → IsAhead rows plan r → ⊥

-- the least cown over which two rows conflict
pub record IsLeastConflict (rows : List Row) (a b cown : ℕ) : Type 0 where
  pub over : ConflictOn rows cown a b
  pub least : (c : ℕ) → ConflictOn rows c a b → cown ≤ c

-- of row r and the one that was found before, if any, the one that starts first, and of both at once the one that was found
abbrev pub IsSooner : List ℕ → Option ℕ → ℕ → ℕ → Type 0
IsSooner plan None r first = first ≡ r
IsSooner plan (Some found) r first = ((first ≡ found) × (start_of plan found ≤ start_of plan r)) ⊎ ((first ≡ r) × (start_of plan r < start_of plan found))

-- the least row that row b goes ahead of, with the least cown over which the two conflict
pub record IsLeastSwap (rows : List Row) (plan : List ℕ) (b : ℕ) (swap : Swap) : Type 0 where
  pub ahead : swap.ahead ≡ b
  pub passes : GoesAhead rows plan swap.passed b
  pub least : (a : ℕ) → GoesAhead rows plan a b → swap.passed ≤ a
  pub over : ConflictOn rows swap.cown swap.passed b
  pub least_cown : (c : ℕ) → ConflictOn rows c swap.passed b → swap.cown ≤ c

-- the same, or nothing where row b goes ahead of none
abbrev pub IsLeastPassed : List Row → List ℕ → ℕ → Option Swap → Type 0
IsLeastPassed rows plan b (Some swap) = IsLeastSwap rows plan b swap
IsLeastPassed rows plan b None = IsAhead rows plan b → ⊥

-- Where a plan first goes otherwise: the row that starts first of those that go ahead of some row, and of several the least; the least row that it goes ahead
-- of; and the least cown over which the two conflict. Nothing where no row goes ahead of one with a lower number.
abbrev pub IsFirstSwap : List Row → List ℕ → Option Swap → Type 0
IsFirstSwap rows plan (Some swap) = IsFirstAhead rows plan (Some swap.ahead) × IsLeastSwap rows plan swap.ahead swap
IsFirstSwap rows plan None = IsFirstAhead rows plan None
