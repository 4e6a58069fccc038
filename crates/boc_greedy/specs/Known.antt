-- What the points of a curve are made of.
use Rattle.std.specs.Prelude.{◌≡◌, ℕ, List}
use Rattle.boc_runs.specs.declared.rows.Row.{Row}
use Rattle.boc_runs.specs.Rows.{IsRows}
use Rattle.boc_plans.specs.Plans.{work_of}
use Rattle.boc_plans.specs.Greedy.{IsSpan}
use Rattle.boc_order.specs.Waits.{AreWaits}
use Rattle.boc_greedy.specs.declared.consequences.Consequences.{Consequences}
use Rattle.boc_greedy.specs.Consequences.{AreConsequences}

-- the rows that each row waits for, what follows from each, and the work and the span of all
pub record IsKnown (rows : List Row) (waits : List (List ℕ)) (c : Consequences) (work span : ℕ) : Type 0 where
  pub shape : IsRows rows
  pub waits_are : AreWaits rows waits
  pub consequences : AreConsequences rows waits c
  pub work_is : work ≡ work_of rows
  pub span_is : IsSpan rows span
