-- What is kept of a run with its log.
use Rattle.std.specs.Prelude.{◌≡◌, ℕ, ◌+◌, ◌*◌, ◌<◌, ◌≤◌, List, length, map, All, Some}
use Rattle.boc_program.specs.declared.limits.TheConstants.{MOST_COWNS}
use Rattle.boc_runs.specs.declared.event.Event.{Event}
use Rattle.boc_runs.specs.declared.events.Deed.TheVariants as deeds
use Rattle.boc_runs.specs.declared.events.Happening.{Happening}
use Rattle.boc_runs.specs.declared.rows.Row.{Row}
use Rattle.boc_runs.specs.Happenings.{told}
use Rattle.boc_runs.specs.Lives as lives
use Rattle.boc_runs.specs.Legal.{Entry, entries, life_of, IsLegal}
use Rattle.boc_rules.specs.declared.rows.TheConstants.{MOST_EVENTS}
use Rattle.boc_rules.specs.Course.{Course}

-- a row of a run as it is so far
abbrev pub row_of : Entry → Row
row_of entry = record {
  parent = entry.parent;
  offset = entry.offset;
  cowns = record { items = entry.cowns };
  ticks = entry.ticks;
  status = entry.status;
  written = record { items = entry.written };
}

-- the log that happenings tell of the rows so far
abbrev pub told_of : List Entry → List Happening → List Event
told_of rows happenings = told happenings (map row_of rows)

-- what has happened to a row: it is there, and has ended where that is what happened, so that nothing told of it changes any more
pub record HasHappened (rows : List Entry) (happening : Happening) : Type 0 where
  pub there : happening.row < length rows
  pub over : happening.deed ≡ deeds.Ended → life_of rows happening.row ≡ Some lives.Ended

-- The run is that of a log which keeps the rules and which the happenings tell of its rows, and there is room for the events of its
-- rows and of those that there is room for.
pub record IsLogged (course : Course) (happenings : List Happening) (room : ℕ) : Type 0 where
  pub few : course.cowns ≤ MOST_COWNS
  pub happened : All (HasHappened course.rows) happenings
  pub legal : IsLegal course.cowns (told_of course.rows happenings)
  pub rows_are : course.rows ≡ entries (told_of course.rows happenings)
  pub roomy : MOST_EVENTS * (length course.rows + course.rooms) ≤ room
