-- What follows from each row.
use Rattle.std.specs.Prelude.{ℕ, List}
use Rattle.boc_runs.specs.declared.rows.Row.{Row}
use Rattle.boc_order.specs.Waits.{AreFollowers}
use Rattle.boc_greedy.specs.declared.consequences.Consequences.{Consequences}
use Rattle.boc_greedy.specs.Families.{IsFamilyOf}

-- the rows that wait for each row, and the first child of each row, the next child of each row's parent, and their times
pub record AreConsequences (rows : List Row) (waits : List (List ℕ)) (c : Consequences) : Type 0 where
  pub followers : AreFollowers waits c.followers
  pub family : IsFamilyOf rows c.family
