-- Fronts through which enough orders go.
use Rattle.std.specs.Prelude.{◌≡◌, ◌≢◌, ℕ, ◌≤◌, List, [], ◌++◌, length, ℤ}
use Rattle.std.specs.List.{Contains}
use Rattle.boc_program.specs.declared.program.Program.{Program}
use Rattle.boc_fronts.specs.Orders.{IsOrder}
use Rattle.boc_fronts.specs.Fronts.{Front, Stands, IsFree, Leads}
use Rattle.boc_closed_sets.specs.Enough.{EndsWhole, IsUnfinished, IsEnough}

-- an order of this kind and of so many rows, and a front of these that stands for its first rows
pub record Passes (p : Program) (Kind : List ℕ → Type 0) (first : ℕ) (fronts : List Front) (many : ℕ) : Type 0 where
  pub front : Front
  pub among : Contains fronts front
  pub parents : List ℕ
  pub names : List ℕ
  pub stands : Stands p parents names front
  pub first_are : length parents ≡ first
  pub rest : List ℕ
  pub as_many : length (parents ++ rest) ≡ many
  pub is : Kind (parents ++ rest)

-- for each order of this kind, with this number of rows at least, one of as many rows passes these fronts
abbrev pub CoversAll : Program → (List ℕ → Type 0) → ℕ → List Front → Type 0
CoversAll p Kind rows fronts = (parents : List ℕ) → rows ≤ length parents → Kind parents → Passes p Kind rows fronts (length parents)

-- These fronts stand for enough orders of so many rows, each for one at least. For each whole order, with so many rows at least, one with the same values and
-- as many rows passes them; and the same holds for orders after which a row has a wish.
pub record Covers (p : Program) (rows : ℕ) (fronts : List Front) : Type 0 where
  pub each : (f : Front) → Contains fronts f
      → (parents : List ℕ) × (names : List ℕ) × IsOrder p parents × (length parents ≡ rows) × Stands p parents names f
  pub whole : (values : List ℤ) → CoversAll p (EndsWhole p values) rows fronts
  pub endless : CoversAll p (IsUnfinished p) rows fronts

-- one spawn leads from the first fronts to each of the others, and from each that has a live row to others at places that are enough
pub record AreNextEnough (p : Program) (fronts others : List Front) : Type 0 where
  pub each : (g : Front) → Contains others g → (f : Front) × (i : ℕ) × Contains fronts f × IsFree f i × Leads p f i g
  pub all : (f : Front) → Contains fronts f → f.live ≢ []
      → (places : List ℕ) × IsEnough p f places × ((i : ℕ) → Contains places i → (g : Front) × Contains others g × Leads p f i g)
