-- The events of a run, as its rows tell them.
use Rattle.std.specs.Prelude.{ℕ, ◌<◌, List, length, map, All, Option, Some, None, slice_get}
use Rattle.boc_runs.specs.declared.event.Event.{Event}
use Rattle.boc_runs.specs.declared.event.Event.TheVariants.{Spawn, Start, End}
use Rattle.boc_runs.specs.declared.events.Deed.{Deed}
use Rattle.boc_runs.specs.declared.events.Deed.TheVariants.{Spawned, Started, Ended}
use Rattle.boc_runs.specs.declared.events.Happening.{Happening}
use Rattle.boc_runs.specs.declared.rows.Row.{Row}

-- the event that a row with this number took part in by this deed
abbrev pub event_of : ℕ → Row → Deed → Event
event_of number row Spawned = Spawn number row.parent row.offset row.cowns
event_of number row Started = Start number
event_of number row Ended = End number row.ticks row.status row.written

-- the same for a row that may be there; the start of one that isn't
abbrev pub event_at : ℕ → Option Row → Deed → Event
event_at number None deed = Start number
event_at number (Some row) deed = event_of number row deed

-- the events that happenings tell of these rows, in their order
abbrev pub told : List Happening → List Row → List Event
told happenings rows = map (λ h. event_at h.row (slice_get rows h.row) h.deed) happenings

-- each happening is one of these rows
abbrev pub AreOf : List Happening → List Row → Type 0
AreOf happenings rows = All (λ h. h.row < length rows) happenings

-- what is kept of an event beside its row
abbrev pub happening_of : Event → Happening
happening_of (Spawn row parent offset cowns) = record { row = row; deed = Spawned }
happening_of (Start row) = record { row = row; deed = Started }
happening_of (End row ticks status written) = record { row = row; deed = Ended }

-- the number of the row that an event is of
abbrev pub row_in : Event → ℕ
row_in (Spawn row parent offset cowns) = row
row_in (Start row) = row
row_in (End row ticks status written) = row
