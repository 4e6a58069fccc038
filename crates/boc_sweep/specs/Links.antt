-- The links between the starts and the ends of rows.
use Rattle.std.specs.Prelude.{◌≡◌, ℕ, ◌+◌, ◌*◌, ◌<◌, List, length}
use Rattle.boc_runs.specs.declared.rows.Row.{Row}
use Rattle.boc_runs.specs.Rows.{offset_of, ticks_of}
use Rattle.boc_plans.specs.Plans.{start_of, end_of, IsChild}

-- the start of a row, its end, and the end of all
pub data Node : Type 0 where
  start : ℕ → Node
  stop : ℕ → Node
  finish : Node

-- nodes in the order in which links lead, for so many rows
abbrev pub number_of : ℕ → Node → ℕ
number_of count (start r) = 2 * r
number_of count (stop r) = 2 * r + 1
number_of count finish = 2 * count

-- the nodes of so many rows
abbrev pub IsNode : ℕ → Node → Type 0
IsNode count (start r) = r < count
IsNode count (stop r) = r < count
IsNode count finish = Unit {0}

-- a row leads from its start to its end, a spawn to a child, and a wait from the end of a row to the start of another
abbrev pub Links : List Row → (ℕ → ℕ → Type 0) → Node → Node → ℕ → Type 0
Links rows Waits (start a) (start b) w = IsChild rows a b × (w ≡ offset_of rows b)
Links rows Waits (start a) (stop b) w = (a < length rows) × (b ≡ a) × (w ≡ ticks_of rows a)
Links rows Waits (start a) finish w = ⊥
Links rows Waits (stop a) (start b) w = Waits a b × (w ≡ 0)
Links rows Waits (stop a) (stop b) w = ⊥
Links rows Waits (stop a) finish w = (a < length rows) × (w ≡ 0)
Links rows Waits finish y w = ⊥

-- the tick at which a plan with this end comes to a node
abbrev pub tick_of : List Row → List ℕ → ℕ → Node → ℕ
tick_of rows plan last (start r) = start_of plan r
tick_of rows plan last (stop r) = end_of rows plan r
tick_of rows plan last finish = last
