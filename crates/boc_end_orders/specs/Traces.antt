-- Fronts with orders that they stand for.
use Rattle.std.specs.Prelude.{◌≡◌, ◌⊎◌, ℕ, ◌+◌, ◌<◌, List, [], ◌∷◌, ◌++◌, length, map, Some, slice_get, slice_index_or, ℤ}
use Rattle.std.specs.List.{Contains}
use Rattle.boc_program.specs.declared.program.Program.{Program}
use Rattle.boc_runs.specs.Serial.{Behaviour}
use Rattle.boc_fronts.specs.Fronts as fronts
use Rattle.boc_fronts.specs.Orders.{IsOrder}
use Rattle.boc_front_rows.specs.declared.arranging.Arranged.{Arranged}
use Rattle.boc_front_rows.specs.declared.row.Front.{Front}
use Rattle.boc_front_rows.specs.Seen.{front_of}
use Rattle.boc_all_ends.specs.Searching.{StandsAt}
use Rattle.boc_all_ends.specs.Stepping.{IsKept, StepsSo}
use Rattle.boc_end_orders.specs.declared.search.Trace.{Trace}
use Rattle.boc_end_orders.specs.Orders.{order_at}

-- the names at places
abbrev pub names_at : List ℕ → List ℕ → List ℕ
names_at names places = map (λ i. slice_index_or names i 0) places

-- further orders may have been added after the others
abbrev pub Adds : List (List ℕ) → List (List ℕ) → Type 0
Adds old new = (more : List (List ℕ)) × (new ≡ old ++ more)

-- a front stands for its order, of so many rows, and these are the rows of its live rows; its lists are there
pub record IsTraced (p : Program) (lists : List (List Behaviour)) (orders : List (List ℕ)) (rows : ℕ) (e : Front × Trace) : Type 0 where
  pub there : e.1.order < length orders
  pub order : IsOrder p (order_at orders e.1.order)
  pub many : length (order_at orders e.1.order) ≡ rows
  pub stands : fronts.Stands p (order_at orders e.1.order) e.1.names.items (front_of lists e.0)
  pub kept : IsKept lists rows e.0

-- each of these fronts is traced
abbrev pub AreTraced : Program → List (List Behaviour) → List (List ℕ) → ℕ → List (Front × Trace) → Type 0
AreTraced p lists orders rows es = (e : Front × Trace) → Contains es e → IsTraced p lists orders rows e

-- the fronts of these
abbrev pub fronts_of : List (Front × Trace) → List Front
fronts_of es = map (λ e. e.0) es

-- the fronts of so many rows, each with an order
pub record IsTracedLayer (p : Program) (lists : List (List Behaviour)) (orders : List (List ℕ)) (rows : ℕ) (es : List (Front × Trace)) : Type 0 where
  pub each : AreTraced p lists orders rows es
  pub stands : StandsAt p lists rows (fronts_of es)

-- a front is the one that was put, with the order that is one spawn longer than another
pub record IsNew (front : Front) (before parent : ℕ) (names : List ℕ) (old new : List (List ℕ)) (e : Front × Trace) : Type 0 where
  pub front_is : e.0 ≡ front
  pub there : e.1.order < length new
  pub order_is : order_at new e.1.order ≡ order_at old before ++ parent ∷ []
  pub names_are : e.1.names.items ≡ names

-- a front was put among others, unless an equal one was there
pub record IsPutTraced (front : Front) (before parent : ℕ) (names : List ℕ) (old new : List (List ℕ)) (was now : List (Front × Trace)) : Type 0 where
  pub adds : Adds old new
  pub stays : (e : Front × Trace) → Contains was e → Contains now e
  pub only : (e : Front × Trace) → Contains now e → Contains was e ⊎ IsNew front before parent names old new e
  pub same : Front × Trace
  pub there : Contains now same
  pub alike : (lists : List (List Behaviour)) → front_of lists same.0 ≡ front_of lists front
  pub as_kept : (lists : List (List Behaviour)) (most : ℕ) → IsKept lists most front → IsKept lists most same.0

-- the front to which the step of a front with an order at a place leads was put among others, with the order that is one spawn longer
pub record IsStepPut (p : Program) (a : List (List Behaviour)) (f : Front) (t : Trace) (rows place : ℕ) (b : List (List Behaviour))
    (orders more : List (List ℕ)) (was now : List (Front × Trace)) : Type 0 where
  pub after : Arranged
  pub step : StepsSo p a f place b after
  pub kept : IsKept b (length f.live.items + 1) after.front
  pub parent : ℕ
  pub name : slice_get t.names.items place ≡ Some parent
  pub names : List ℕ
  pub names_are : names ≡ names_at (t.names.items ++ rows ∷ []) after.kept.items
  pub put : IsPutTraced after.front t.order parent names orders more was now

-- a front that has no live row and these values is among these, with this order
pub record HasOrder (es : List (Front × Trace)) (values : List ℤ) (order : ℕ) : Type 0 where
  pub entry : Front × Trace
  pub among : Contains es entry
  pub over : entry.0.live.items ≡ []
  pub values_are : entry.0.values.items ≡ values
  pub order_is : entry.1.order ≡ order

-- no front without a live row has these values
abbrev pub HasNoEnd : List (Front × Trace) → List ℤ → Type 0
HasNoEnd es values = (e : Front × Trace) → Contains es e → e.0.live.items ≡ [] → e.0.values.items ≡ values → ⊥
