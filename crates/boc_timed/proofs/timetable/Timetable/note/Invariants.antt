use Rattle.std.proofs.Common.{◌+◌, ◌-◌, length}
use Rattle.boc_timed.specs.Timetables.{IsEven}
use Rattle.boc_timed.proofs.Places.{HasPlaces}
use Rattle.boc_timed.proofs.timetable.Timetable.note.Given as goal

abbrev pub invariant-loop-self : goal.invariant-loop-self
invariant-loop-self l = IsEven l.self × HasPlaces l.initial.self l.row l.self

-- how many rows more have no place yet
abbrev pub decreases-loop-self : goal.decreases-loop-self
decreases-loop-self l = l.row + 1 - length l.self.starts.items
