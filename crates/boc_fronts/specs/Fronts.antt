-- What of a beginning of a run matters for the rest of it.
use Rattle.std.specs.Prelude.{◌≡◌, ◌≢◌, ◌↔◌, ℕ, ◌<◌, ◌≤◌, List, [], ◌∷◌, ◌++◌, length, map, drop, ℤ, Some, slice_get}
use Rattle.std.specs.Option.{option_map_or}
use Rattle.std.specs.List.{Contains}
use Rattle.boc_program.specs.declared.program.Program.{Program}
use Rattle.boc_runs.specs.Serial.{Behaviour, behaviour_of, SerialRow, Serial, children, serial_along}
use Rattle.boc_fronts.specs.Orders.{others_of, HasWish, IsBefore, IsOrder}
use Rattle.boc_fronts.specs.Claims.{Claims}

-- a row that has a wish: the behaviours of its wishes that are no rows yet, the places of the live rows that are before it, and the cowns that it claims
pub record LiveRow : Type 0 where
  pub wishes : List Behaviour
  pub before : List ℕ
  pub claims : List ℕ

-- the cowns' values, and the rows that have a wish
pub record Front : Type 0 where
  pub values : List ℤ
  pub live : List LiveRow

-- the behaviours of the wishes of a row that are no rows yet
abbrev pub wishes_left : List SerialRow → ℕ → List Behaviour
wishes_left rows r = map behaviour_of (drop (children r (others_of rows)) (option_map_or (λ x. x.means.wishes) (slice_get rows r) []))

-- a front stands for a serial run, but its live rows need not have wishes; the names are the numbers of its live rows, place by place
pub record StandsLoosely (s : Serial) (names : List ℕ) (f : Front) : Type 0 where
  pub values_are : s.values ≡ f.values
  pub many : length names ≡ length f.live
  pub there : (i r : ℕ) → slice_get names i ≡ Some r → r < length s.rows
  pub childless : (r : ℕ) → length s.rows ≤ r → children r (others_of s.rows) ≡ 0
  pub all : (r : ℕ) → HasWish s.rows r → (i : ℕ) × (slice_get names i ≡ Some r)
  pub once : (i j r : ℕ) → slice_get names i ≡ Some r → slice_get names j ≡ Some r → i ≡ j
  pub wishes : (i r : ℕ) (l : LiveRow) → slice_get names i ≡ Some r → slice_get f.live i ≡ Some l → wishes_left s.rows r ≡ l.wishes
  pub before_low : (i j : ℕ) (l : LiveRow) → slice_get f.live i ≡ Some l → Contains l.before j → j < length f.live
  pub before : (i j r q : ℕ) (l : LiveRow) → slice_get names i ≡ Some r → slice_get f.live i ≡ Some l → slice_get names j ≡ Some q
      → (Contains l.before j ↔ IsBefore s.rows q r)
  pub claims : (i r c : ℕ) (l : LiveRow) → slice_get names i ≡ Some r → slice_get f.live i ≡ Some l
      → (Contains l.claims c ↔ Claims s.rows c r)

-- a front stands for an order of spawns
pub record Stands (p : Program) (parents names : List ℕ) (f : Front) : Type 0 where
  pub loosely : StandsLoosely (serial_along p parents) names f
  pub some : (i : ℕ) (l : LiveRow) → slice_get f.live i ≡ Some l → l.wishes ≢ []

-- nobody is before the live row at a place
pub record IsFree (f : Front) (i : ℕ) : Type 0 where
  pub row : LiveRow
  pub is : slice_get f.live i ≡ Some row
  pub none : (j : ℕ) → j < length f.live → Contains row.before j → ⊥

-- the next spawn at a place leads from the one front to the other, whatever order the first one stands for
abbrev pub Leads : Program → Front → ℕ → Front → Type 0
Leads p f i g = (parents names : List ℕ) (r : ℕ) → Stands p parents names f → slice_get names i ≡ Some r
    → (after : List ℕ) × Stands p (parents ++ r ∷ []) after g

-- these fronts stand for the orders of so many rows: each for one, and each order stands for one of them
pub record IsLayer (p : Program) (rows : ℕ) (fronts : List Front) : Type 0 where
  pub each : (f : Front) → Contains fronts f
      → (parents : List ℕ) × (names : List ℕ) × IsOrder p parents × (length parents ≡ rows) × Stands p parents names f
  pub all : (parents : List ℕ) → IsOrder p parents → length parents ≡ rows
      → (f : Front) × (names : List ℕ) × Contains fronts f × Stands p parents names f

-- the fronts to which one spawn leads from these
pub record AreNext (p : Program) (fronts others : List Front) : Type 0 where
  pub each : (g : Front) → Contains others g → (f : Front) × (i : ℕ) × Contains fronts f × IsFree f i × Leads p f i g
  pub all : (f : Front) (i : ℕ) → Contains fronts f → IsFree f i → (g : Front) × Contains others g × Leads p f i g

-- a front of these has no live row, and has these values
pub record HasEnd (fronts : List Front) (values : List ℤ) : Type 0 where
  pub front : Front
  pub among : Contains fronts front
  pub over : front.live ≡ []
  pub values_are : front.values ≡ values
