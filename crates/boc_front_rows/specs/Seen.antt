-- How fronts as code are seen.
use Rattle.std.specs.Prelude.{List, map}
use Rattle.boc_runs.specs.Serial.{Behaviour}
use Rattle.boc_fronts.specs.Fronts as fronts
use Rattle.boc_front_rows.specs.declared.row.Front.{Front}
use Rattle.boc_front_rows.specs.Lists.{list_at}
use Rattle.boc_front_rows.specs.Rows.{Plain, plains}

-- a live row, where the lists of wishes are these
abbrev pub shown : List (List Behaviour) → Plain → fronts.LiveRow
shown lists r = record { wishes = list_at lists r.wishes; before = r.before; claims = r.claims }

-- a front, where the lists of wishes are these
abbrev pub front_of : List (List Behaviour) → Front → fronts.Front
front_of lists f = record { values = f.values.items; live = map (shown lists) (plains f.live.items) }
