-- The record of a finished run.
use Rattle.std.specs.Prelude.{◌≡◌, ℕ, ◌≤◌, List, length, slice_get, Some}
use Rattle.boc_program.specs.declared.limits.TheConstants.{MOST_COWNS}
use Rattle.boc_runs.specs.declared.event.Event.{Event}
use Rattle.boc_program.specs.declared.program.Program.{Program}
use Rattle.boc_runs.specs.declared.rows.Row.{Row}
use Rattle.boc_program.specs.Programs.{cown_count}
use Rattle.boc_runs.specs.Legal.{Entry, entries, IsLegal, IsComplete}
use Rattle.boc_runs.specs.Run.{IsWholeRun}

-- the row that a row of a run has become
pub record IsRowOf (entry : Entry) (row : Row) : Type 0 where
  pub parent : row.parent ≡ entry.parent
  pub offset : row.offset ≡ entry.offset
  pub cowns : row.cowns.items ≡ entry.cowns
  pub ticks : row.ticks ≡ entry.ticks
  pub status : row.status ≡ entry.status
  pub written : row.written.items ≡ entry.written

-- the rows of a run, one for each
pub record AreRowsOf (run : List Entry) (rows : List Row) : Type 0 where
  pub all : length rows ≡ length run
  pub each : (r : ℕ) (entry : Entry) (row : Row) → slice_get run r ≡ Some entry → slice_get rows r ≡ Some row → IsRowOf entry row

-- a number of cowns, events over them, and rows
pub record Recorded : Type 0 where
  pub cowns : ℕ
  pub events : List Event
  pub rows : List Row

-- the events are a complete run that keeps the rules, and the rows are its rows
pub record IsRecord (r : Recorded) : Type 0 where
  pub few : r.cowns ≤ MOST_COWNS
  pub legal : IsLegal r.cowns r.events
  pub complete : IsComplete r.events
  pub rows_are : AreRowsOf (entries r.events) r.rows

-- the record of a run of a program: its cowns are the program's, and its events are a whole run of it
pub record IsRecordOf (p : Program) (r : Recorded) : Type 0 where
  pub cowns : r.cowns ≡ cown_count p.cowns
  pub run : IsWholeRun p r.events
