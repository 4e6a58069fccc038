-- When a plan ends in which all rows have started.
use Rattle.std.specs.Prelude.{ℕ, ◌<◌, ◌≤◌, List, length, Option}
use Rattle.boc_program.specs.declared.limits.TheConstants.{MOST_COWNS}
use Rattle.boc_runs.specs.declared.rows.Row.{Row}
use Rattle.boc_plans.specs.Plans.{end_of}
use Rattle.boc_uses.specs.declared.uses.Use.{Use}
use Rattle.boc_used_greedy.specs.Ready.{left}

-- the first tick by which all rows have ended, and have left all cowns
pub record IsEndOf (rows : List Row) (holds : List (Option Use)) (plan : List ℕ) (end : ℕ) : Type 0 where
  pub rows_end : (r : ℕ) → r < length rows → end_of rows plan r ≤ end
  pub turns_end : (c : ℕ) → c < MOST_COWNS → (left rows holds plan c (length rows)).held ≤ end
  pub least : (tick : ℕ) → ((r : ℕ) → r < length rows → end_of rows plan r ≤ tick)
      → ((c : ℕ) → c < MOST_COWNS → (left rows holds plan c (length rows)).held ≤ tick) → end ≤ tick
