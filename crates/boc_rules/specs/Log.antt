-- A log under way, and the room for its rows.
use Rattle.std.specs.Prelude.{ℕ, ◌-◌, ◌<◌, List, [], ◌∷◌, ◌++◌}
use Rattle.boc_runs.specs.declared.event.Event.{Event}
use Rattle.boc_runs.specs.declared.event.Event.TheVariants.{Spawn, Start, End}

-- a number of cowns, the events over them so far, and how many rows there is room for that are not spawned yet
pub record Log : Type 0 where
  pub cowns : ℕ
  pub events : List Event
  pub rooms : ℕ

-- there is room for an event: a spawn needs one of so many rooms, and a row's later events have theirs since its spawn
abbrev pub HasRoomFor : ℕ → Event → Type 0
HasRoomFor rooms (Spawn row parent offset cowns) = 0 < rooms
HasRoomFor rooms (Start row) = Unit {0}
HasRoomFor rooms (End row ticks status written) = Unit {0}

-- how many rooms are left after an event
abbrev pub rooms_after : ℕ → Event → ℕ
rooms_after rooms (Spawn row parent offset cowns) = rooms - 1
rooms_after rooms (Start row) = rooms
rooms_after rooms (End row ticks status written) = rooms

-- a log with an event behind the others
abbrev pub grown : Log → Event → Log
grown log event = record log { events = log.events ++ event ∷ []; rooms = rooms_after log.rooms event }
