-- The rows as a simulation reads them.
use Rattle.std.specs.Prelude.{ℕ, List, Option, Some, None}
use Rattle.boc_runs.specs.declared.rows.Row.{Row}
use Rattle.boc_runs.specs.Changes.{without}

-- the rows, of which a cown may be left out
abbrev pub freed_by : Option ℕ → List Row → List Row
freed_by None rows = rows
freed_by (Some cown) rows = without cown rows
