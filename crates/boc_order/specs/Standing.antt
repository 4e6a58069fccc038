-- What a plan has of some rows.
use Rattle.std.specs.Prelude.{ℕ, List, length, take}
use Rattle.boc_runs.specs.declared.rows.Row.{Row}
use Rattle.boc_order.specs.declared.plan.Earliest.{Earliest}
use Rattle.boc_order.specs.Placed.{ArePlaced}

-- all rows stand in the plan where they must
abbrev pub IsPlanOf : List Row → Earliest → Type 0
IsPlanOf rows plan = ArePlaced rows plan.starts.items plan.ends.items plan.after.items (length rows)

-- the first n rows stand in the plan where they must, whatever it has of the others
abbrev pub HasFirst : List Row → Earliest → ℕ → Type 0
HasFirst rows plan n = ArePlaced rows (take n plan.starts.items) (take n plan.ends.items) (take n plan.after.items) n
