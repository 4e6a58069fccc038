-- The ends that were gathered so far, and the fronts that have them.
use Rattle.std.specs.Prelude.{◌≡◌, ◌≢◌, ◌↔◌, ℕ, ◌<◌, ◌≤◌, List, [], length, map, Option, Some, None, ℤ}
use Rattle.std.specs.List.Sorted.{IsStrictlySortedBy}
use Rattle.std.specs.List.{Contains}
use Rattle.std.specs.Ordering.{int_cmp}
use Rattle.std.specs.Cmp.Lexicographic.{slice_cmp}
use Rattle.std.specs.BTreeMap.{get_by}
use Rattle.std.specs.declared.alloc.Global.{Global}
use Rattle.std.specs.declared.vec.Vec.{Vec}
use Rattle.boc_program.specs.declared.program.Program.{Program}
use Rattle.boc_runs.specs.Serial.{serial_along}
use Rattle.boc_fronts.specs.Orders.{IsWholeOrder}
use Rattle.boc_front_rows.specs.declared.row.Front.{Front}
use Rattle.boc_all_ends.specs.declared.ends.Ends.{Ends}
use Rattle.boc_all_ends.specs.declared.ends.Extent.{Extent}
use Rattle.boc_all_ends.specs.declared.found.End.{End}

-- a whole order of so many rows ends with these values
pub record IsOrderEnd (p : Program) (rows : ℕ) (values : List ℤ) : Type 0 where
  pub parents : List ℕ
  pub whole : IsWholeOrder p parents
  pub many : length parents ≡ rows
  pub values_are : (serial_along p parents).values ≡ values

-- a front of these has no live row, and has these values
pub record EndsHere (fronts : List Front) (values : List ℤ) : Type 0 where
  pub front : Front
  pub among : Contains fronts front
  pub over : front.live.items ≡ []
  pub values_are : front.values.items ≡ values

-- a front of these has a live row
abbrev pub HasLive : List Front → Type 0
HasLive fronts = (f : Front) × Contains fronts f × (f.live.items ≢ [])

-- these fronts have the ends of the whole orders of so many rows
abbrev pub HaveEnds : Program → ℕ → List Front → Type 0
HaveEnds p rows fronts = (values : List ℤ) → (EndsHere fronts values ↔ IsOrderEnd p rows values)

-- what is noted of an end with these values
abbrev pub noted : Ends → List ℤ → Option Extent
noted ends values = get_by (λ v. slice_cmp int_cmp values v.items) ends.found

-- these are the ends of the whole orders of fewer rows than this
pub record AreNoted (p : Program) (below : ℕ) (ends : Ends) : Type 0 where
  pub least : (values : List ℤ) (x : Extent) → noted ends values ≡ Some x → IsOrderEnd p x.least values
  pub most : (values : List ℤ) (x : Extent) → noted ends values ≡ Some x → IsOrderEnd p x.most values
  pub low : (values : List ℤ) (x : Extent) → noted ends values ≡ Some x → (x.least ≤ x.most) × (x.most < below)
  pub all : (rows : ℕ) (values : List ℤ) → rows < below → IsOrderEnd p rows values
      → (x : Extent) × (noted ends values ≡ Some x) × (x.least ≤ rows) × (rows ≤ x.most)

-- the extent of an end with one number of rows more, which is the greatest so far
abbrev pub widened : Option Extent → ℕ → Extent
widened None rows = record { least = rows; most = rows }
widened (Some x) rows = record { least = x.least; most = rows }

-- one more was noted, with so many rows
pub record NotesMore (old : Ends) (values : List ℤ) (rows : ℕ) (new : Ends) : Type 0 where
  pub here : noted new values ≡ Some (widened (noted old values) rows)
  pub elsewhere : (others : List ℤ) → others ≢ values → noted new others ≡ noted old others

-- an end as it is noted: its values, and the least and the greatest number of rows
pub record Note : Type 0 where
  pub values : List ℤ
  pub least : ℕ
  pub most : ℕ

abbrev pub note_of : End → Note
note_of e = record { values = e.values.items; least = e.least; most = e.most }

abbrev pub noted_in : Vec ℤ Global × Extent → Note
noted_in e = record { values = e.0.items; least = e.1.least; most = e.1.most }

-- these are the ends that were noted, in the order of their values
pub record HoldsEnds (ends : Ends) (all : List End) : Type 0 where
  pub each : (e : End) → Contains all e → noted ends e.values.items ≡ Some (record { least = e.least; most = e.most })
  pub every : (values : List ℤ) (x : Extent) → noted ends values ≡ Some x
      → (e : End) × Contains all e × (e.values.items ≡ values) × (e.least ≡ x.least) × (e.most ≡ x.most)
  pub in_order : IsStrictlySortedBy (slice_cmp int_cmp) (map (λ e. e.values.items) all)
