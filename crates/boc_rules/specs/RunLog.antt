-- What is kept of a run by a log that judges nothing.
use Rattle.std.specs.Prelude.{ℕ, ◌+◌, ◌*◌, ◌<◌, ◌≤◌, List, [], ◌∷◌, ◌++◌, length, All, slice_get}
use Rattle.boc_program.specs.declared.limits.TheConstants.{MOST_COWNS}
use Rattle.boc_runs.specs.declared.event.Event.{Event}
use Rattle.boc_runs.specs.declared.event.Event.TheVariants.{Spawn, Start, End}
use Rattle.boc_runs.specs.declared.events.Happening.{Happening}
use Rattle.boc_runs.specs.declared.rows.Row.{Row}
use Rattle.boc_runs.specs.Happenings.{told}
use Rattle.boc_program.specs.Changed.{changed}
use Rattle.boc_runs.specs.Legal.{entries, IsLegal}
use Rattle.boc_runs.specs.Records.{AreRowsOf}
use Rattle.boc_rules.specs.declared.rows.TheConstants.{MOST_EVENTS}
use Rattle.boc_rules.specs.Logged.{HasHappened}
use Rattle.boc_rules.specs.SoFar.{new_row}

-- an event can be kept with the rows: its cowns have bytes, and the row that it ends is there
abbrev pub CanKeep : List Row → Event → Type 0
CanKeep rows (Spawn row parent offset cowns) = All (λ c. c < MOST_COWNS) cowns.items
CanKeep rows (Start row) = Unit {0}
CanKeep rows (End row ticks status written) = (row < length rows) × All (λ c. c < MOST_COWNS) written.items

-- the rows that are kept after an event
abbrev pub rows_after : List Row → Event → List Row
rows_after rows (Spawn row parent offset cowns) = rows ++ new_row parent offset cowns ∷ []
rows_after rows (Start row) = rows
rows_after rows (End row ticks status written) =
    changed rows row (λ x. record x { ticks = ticks; status = status; written = written }) (slice_get rows row)

-- The happenings tell of the rows a log that keeps the rules, of which these are the rows so far. There is room for so many more rows,
-- and for the events of all.
pub record IsRunLog (cowns : ℕ) (rows : List Row) (happenings : List Happening) (rooms row_room event_room : ℕ) : Type 0 where
  pub few : cowns ≤ MOST_COWNS
  pub legal : IsLegal cowns (told happenings rows)
  pub rows_are : AreRowsOf (entries (told happenings rows)) rows
  pub happened : All (HasHappened (entries (told happenings rows))) happenings
  pub rows_fit : length rows + rooms ≤ row_room
  pub events_fit : MOST_EVENTS * (length rows + rooms) ≤ event_room
