-- What is known of rows, whichever of their cowns is left out.
use Rattle.std.specs.Prelude.{List}
use Rattle.boc_runs.specs.declared.rows.Row.{Row}
use Rattle.boc_order.specs.CownLinks.{AreCownLinks}
use Rattle.boc_greedy.specs.declared.any_cown.AnyCown.{AnyCown}
use Rattle.boc_greedy.specs.Families.{IsFamilyOf}

-- for whose sake each row waits for which, the first child of each row, the next child of each row's parent, and their times
pub record IsOfRows (rows : List Row) (known : AnyCown) : Type 0 where
  pub links : AreCownLinks rows known.links.list.items
  pub family : IsFamilyOf rows known.family
