-- A simulation that has ended.
use Rattle.std.specs.Prelude.{ℕ, ◌^◌, ◌<◌, List, length, slice_index}
use Rattle.boc_runs.specs.declared.rows.Row.{Row}
use Rattle.boc_plans.specs.Greedy.{IsGreedy, IsMoment, CountsAll}
use Rattle.boc_greedy.specs.declared.simulation.Simulation.{Simulation}

-- what the plan of a simulation that has ended keeps
pub record IsDone (rows : List Row) (p : ℕ) (s : Simulation) : Type 0 where
  pub greedy : IsGreedy rows p s.starts.items s.workers.items
  pub moments : CountsAll s.moments (IsMoment rows s.starts.items)
  pub low : (r : ℕ) → r < length rows → slice_index s.starts.items r < 2 ^ 62
