-- Plans for the rows of a record, and the earliest of them. Where cowns are exclusive, the rows are those that count as writing all their cowns.
use Rattle.std.specs.Prelude.{◌≡◌, ℕ, ◌+◌, ◌<◌, ◌≤◌, ◌⊎◌, List, length, slice_index}
use Rattle.std.specs.List.{Contains, sum_by}
use Rattle.boc_runs.specs.declared.rows.Row.{Row}
use Rattle.boc_runs.specs.Rows.{parent_of, offset_of, ticks_of, cowns_of, written_of}

-- the tick at which a row starts; a plan is the list of these
abbrev pub start_of : List ℕ → ℕ → ℕ
start_of plan r = slice_index plan r

-- the tick at which a row ends
abbrev pub end_of : List Row → List ℕ → ℕ → ℕ
end_of rows plan r = start_of plan r + ticks_of rows r

-- b is a row of the record, and a child of row a
pub record IsChild (rows : List Row) (a b : ℕ) : Type 0 where
  pub not_main : 0 < b
  pub there : b < length rows
  pub parent : parent_of rows b ≡ a

-- both rows need cown c, and one of them wrote it
pub record ConflictOn (rows : List Row) (c a b : ℕ) : Type 0 where
  pub first : Contains (cowns_of rows a) c
  pub second : Contains (cowns_of rows b) c
  pub wrote : Contains (written_of rows a) c ⊎ Contains (written_of rows b) c

-- row a comes before row b, and they conflict on some cown
pub record Ordered (rows : List Row) (a b : ℕ) : Type 0 where
  pub before : a < b
  pub shared : (c : ℕ) × ConflictOn rows c a b

-- no row starts before its spawn, nor before the end of a row that is ordered before it
pub record Keeps (rows : List Row) (plan : List ℕ) : Type 0 where
  pub whole : length plan ≡ length rows
  pub spawned : (a b : ℕ) → IsChild rows a b → start_of plan a + offset_of rows b ≤ start_of plan b
  pub in_order : (a b : ℕ) → b < length rows → Ordered rows a b → end_of rows plan a ≤ start_of plan b

-- the end of the plan: the greatest end of a row
pub record IsEnd (rows : List Row) (plan : List ℕ) (last : ℕ) : Type 0 where
  pub none_later : (r : ℕ) → r < length rows → end_of rows plan r ≤ last
  pub reached : (r : ℕ) × (r < length rows) × (end_of rows plan r ≡ last)

-- no plan that keeps ends before this tick
abbrev pub NoneEndsBefore : List Row → ℕ → Type 0
NoneEndsBefore rows tick = (plan : List ℕ) (last : ℕ) → Keeps rows plan → IsEnd rows plan last → tick ≤ last

-- the plan keeps, and no plan that keeps starts any row earlier
pub record IsEarliest (rows : List Row) (plan : List ℕ) : Type 0 where
  pub keeps : Keeps rows plan
  pub least : (other : List ℕ) → Keeps rows other → (r : ℕ) → r < length rows → start_of plan r ≤ start_of other r

-- the work: the ticks of all rows
abbrev pub work_of : List Row → ℕ
work_of rows = sum_by (λ x. x.ticks) rows

-- the ticks at which the rows end
pub record HasEnds (rows : List Row) (plan ends : List ℕ) : Type 0 where
  pub whole : length ends ≡ length rows
  pub at : (r : ℕ) → r < length rows → slice_index ends r ≡ end_of rows plan r
