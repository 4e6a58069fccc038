-- What is found of an event.
use Rattle.std.specs.Prelude.{ℕ, List, Result, Ok, Err}
use Rattle.boc_runs.specs.declared.event.Event.{Event}
use Rattle.boc_runs.specs.declared.event.BrokenRule.{BrokenRule}
use Rattle.boc_runs.specs.Legal.{Entry, IsAllowed, IsFirstBroken}

-- the event keeps every rule, or this is the first that it breaks
abbrev pub Judges : ℕ → List Entry → Event → Result (Unit {0}) BrokenRule → Type 0
Judges count rows event (Ok _) = IsAllowed count rows event
Judges count rows event (Err rule) = IsFirstBroken count rows event rule
