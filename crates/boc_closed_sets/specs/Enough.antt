-- Places of a front of which one may come next.
use Rattle.std.specs.Prelude.{◌≡◌, ◌≢◌, ◌↔◌, ℕ, ◌+◌, List, [], ◌∷◌, ◌++◌, length, ℤ, Some, slice_get}
use Rattle.std.specs.List.{Contains}
use Rattle.boc_program.specs.declared.program.Program.{Program}
use Rattle.boc_runs.specs.Serial.{serial_along}
use Rattle.boc_fronts.specs.Orders.{HasWish, IsOrder, IsWholeOrder}
use Rattle.boc_fronts.specs.Fronts.{Front, Stands, IsFree}

-- a whole order that ends with these values
abbrev pub EndsWhole : Program → List ℤ → List ℕ → Type 0
EndsWhole p values parents = IsWholeOrder p parents × ((serial_along p parents).values ≡ values)

-- an order after which a row has a wish
abbrev pub IsUnfinished : Program → List ℕ → Type 0
IsUnfinished p parents = IsOrder p parents × ((r : ℕ) × HasWish (serial_along p parents).rows r)

-- An order of this kind that goes on behind these parents with the row at one of these places, and has so many rows behind them.
pub record GoesOnAt (Kind : List ℕ → Type 0) (parents names places : List ℕ) (many : ℕ) : Type 0 where
  pub place : ℕ
  pub among : Contains places place
  pub row : ℕ
  pub named : slice_get names place ≡ Some row
  pub others : List ℕ
  pub as_many : length others + 1 ≡ many
  pub is : Kind (parents ++ row ∷ others)

-- for each order of this kind that goes on from this front, one with as many rows goes on from it at one of these places
abbrev pub AreEnoughFor : Program → (List ℕ → Type 0) → Front → List ℕ → Type 0
AreEnoughFor p Kind f places = (parents names rest : List ℕ) → Stands p parents names f → rest ≢ [] → Kind (parents ++ rest)
    → GoesOnAt Kind parents names places (length rest)

-- It is enough to go on from a front at these places, which are free. For each whole order one with the same values and as many rows does so, and for each
-- order after which a row has a wish another such order with as many rows.
pub record IsEnough (p : Program) (f : Front) (places : List ℕ) : Type 0 where
  pub free : (i : ℕ) → Contains places i → IsFree f i
  pub whole : (values : List ℤ) → AreEnoughFor p (EndsWhole p values) f places
  pub endless : AreEnoughFor p (IsUnfinished p) f places

-- these places are the free ones among others
abbrev pub AreFreeOf : Front → List ℕ → List ℕ → Type 0
AreFreeOf f inside places = (i : ℕ) → (Contains places i ↔ (Contains inside i × IsFree f i))

-- these places are all the free ones
abbrev pub AreAllFree : Front → List ℕ → Type 0
AreAllFree f places = (i : ℕ) → (Contains places i ↔ IsFree f i)
