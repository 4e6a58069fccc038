-- The children of rows, one after another, and when rows spawn them and end.
use Rattle.std.specs.Prelude.{◌≡◌, ℕ, ◌+◌, ◌<◌, ◌≤◌, List, length, map, slice_index}
use Rattle.boc_runs.specs.declared.rows.Row.{Row}
use Rattle.boc_runs.specs.Rows.{parent_of, offset_of, ticks_of}
use Rattle.boc_plans.specs.Plans.{IsChild}
use Rattle.boc_greedy.specs.declared.children.Change.{Change}
use Rattle.boc_greedy.specs.declared.children.Family.{Family}

-- the children in some changes; where there is none, the number of rows
abbrev pub children_of : List Change → List ℕ
children_of changes = map (λ c. c.child) changes

-- how many ticks after the start of its row each change comes
abbrev pub times_of : List Change → List ℕ
times_of changes = map (λ c. c.after) changes

-- b is the least child of row a from a number on, or the number of rows where there is none
pub record IsNextChild (rows : List Row) (a from b : ℕ) : Type 0 where
  pub above : from ≤ b
  pub below : b ≤ length rows
  pub child : b < length rows → IsChild rows a b
  pub none_between : (c : ℕ) → from ≤ c → c < b → IsChild rows a c → ⊥

-- so many ticks after its start row a spawns this child or, where there is none, ends
pub record IsTimed (rows : List Row) (a child after : ℕ) : Type 0 where
  pub spawns : child < length rows → after ≡ offset_of rows child
  pub ends : length rows ≤ child → after ≡ ticks_of rows a

-- each row comes to its child, or to its end, at its time
abbrev pub AreTimed : List Row → List ℕ → List ℕ → Type 0
AreTimed rows first times = (a : ℕ) → a < length rows → IsTimed rows a (slice_index first a) (slice_index times a)

-- for each row but main the next child of its parent, and its time
pub record AreNext (rows : List Row) (next times : List ℕ) : Type 0 where
  pub whole : length next ≡ length rows
  pub child : (b : ℕ) → 0 < b → b < length rows → IsNextChild rows (parent_of rows b) (b + 1) (slice_index next b)
  pub timed : (b : ℕ) → 0 < b → b < length rows → IsTimed rows (parent_of rows b) (slice_index next b) (slice_index times b)

-- the first child of each row, the next child of each row's parent, and their times
pub record IsFamily (rows : List Row) (first first_times next next_times : List ℕ) : Type 0 where
  pub whole : length first ≡ length rows
  pub child : (a : ℕ) → a < length rows → IsNextChild rows a 1 (slice_index first a)
  pub are_timed : AreTimed rows first first_times
  pub are_next : AreNext rows next next_times

-- the same, where children and times stand side by side
abbrev pub IsFamilyOf : List Row → Family → Type 0
IsFamilyOf rows f = IsFamily rows (children_of f.first.items) (times_of f.first.items) (children_of f.next.items) (times_of f.next.items)
