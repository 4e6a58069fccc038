-- The rows of a record as plans see them.
use Rattle.std.specs.Prelude.{List, [], ◌∷◌, Option, Some, None}
use Rattle.boc_runs.specs.declared.rows.Row.{Row}
use Rattle.boc_runs.specs.Rows.{edited}
use Rattle.boc_plans.specs.declared.sharing.OtherTicks.{OtherTicks}
use Rattle.boc_plans.specs.declared.sharing.Sharing.{Sharing}
use Rattle.boc_plans.specs.declared.sharing.Sharing.TheVariants.{Exclusive, SharedReads}

-- the rows, each of which counts as writing all its cowns
abbrev pub writing_all : List Row → List Row
writing_all [] = []
writing_all (x ∷ rows) = record x { written = x.cowns } ∷ writing_all rows

-- the rows as they are seen: where cowns are exclusive, to have a cown is to write it
abbrev pub seen : Sharing → List Row → List Row
seen Exclusive rows = writing_all rows
seen SharedReads rows = rows

-- the rows, of which one may take other ticks
abbrev pub edited_by : Option OtherTicks → List Row → List Row
edited_by None rows = rows
edited_by (Some other) rows = edited rows other.row other.ticks
