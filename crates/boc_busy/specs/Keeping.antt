-- What is looked at for each row of a plan that keeps.
use Rattle.std.specs.Prelude.{ℕ, ◌+◌, ◌≤◌, List}
use Rattle.boc_runs.specs.declared.rows.Row.{Row}
use Rattle.boc_runs.specs.Rows.{offset_of}
use Rattle.boc_plans.specs.Plans.{start_of, end_of, IsChild}
use Rattle.boc_order.specs.Waits.{IsNear}

-- row b starts at its spawn or later, and when the rows that it waits for are over
pub record KeepsAt (rows : List Row) (plan : List ℕ) (b : ℕ) : Type 0 where
  pub spawned : (a : ℕ) → IsChild rows a b → start_of plan a + offset_of rows b ≤ start_of plan b
  pub near : (a : ℕ) → IsNear rows a b → end_of rows plan a ≤ start_of plan b
