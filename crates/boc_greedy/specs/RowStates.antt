-- How far the rows are, and which of them can start.
use Rattle.std.specs.Prelude.{◌≡◌, ℕ, List, Some, slice_get}
use Rattle.boc_runs.specs.declared.rows.Row.{Row}
use Rattle.boc_plans.specs.Plans.{Ordered}
use Rattle.boc_greedy.specs.declared.frontier.RowState.{RowState}
use Rattle.boc_greedy.specs.declared.frontier.RowState.TheVariants.{Waiting, Over}

-- row r is at a state
abbrev pub IsAt : List RowState → ℕ → RowState → Type 0
IsAt states r state = slice_get states r ≡ Some state

-- row r is spawned and has not started, and each row that is ordered before it is over
pub record CanStart (rows : List Row) (states : List RowState) (r : ℕ) : Type 0 where
  pub waits : IsAt states r Waiting
  pub clear : (a : ℕ) → Ordered rows a r → IsAt states a Over
