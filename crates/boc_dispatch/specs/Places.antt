-- What a step does to a behaviour.
use Rattle.std.specs.Prelude.{ℕ, suc, ◌+◌, ◌-◌, true, false, if◌then◌else◌, nat_eq, Option}
use Rattle.boc_runs.specs.declared.event.Event.{Event}
use Rattle.boc_runs.specs.declared.event.Event.TheVariants.{Spawn}
use Rattle.boc_runs.specs.declared.stage.Phase.{Phase}
use Rattle.boc_runs.specs.declared.stage.Phase.TheVariants as phases
use Rattle.boc_runs.specs.declared.stage.Stage.TheVariants.{Asking, Recorded}
use Rattle.boc_runs.specs.machine.Steps.{flagging}
use Rattle.boc_dispatch.specs.declared.live.Live.{Live}

-- the behaviour in this phase of a row
abbrev pub in_phase : ℕ → Phase → Live → Live
in_phase row phase l = record l { stage = Recorded row phase }

-- it runs
abbrev pub begun : ℕ → Live → Live
begun row l = record l { stage = Recorded row phases.Running }

-- it has this child in hand, or none
abbrev pub with_child : Option ℕ → Live → Live
with_child child l = record l { child = child }

-- one more of its wishes is spawned
abbrev pub with_spawn : Live → Live
with_spawn l = record l { spawned = l.spawned + 1 }

-- a request is exchanged
abbrev pub exchanged : ℕ → Live → Live
exchanged request l = record l { stage = Asking request true }

-- a request is settled, and so many more are granted
abbrev pub settled : ℕ → ℕ → Live → Live
settled request granted l = record l { stage = Asking (suc request) false; awaited = l.awaited - granted }

-- its spawn is recorded under this row
abbrev pub with_row : ℕ → Live → Live
with_row row l = in_phase row (flagging l.cowns.items 0) l

-- the event of that
abbrev pub spawn_of : ℕ → Live → Event
spawn_of row l = Spawn row l.parent l.offset l.cowns

-- it awaits one thing less, and is ready where it awaits nothing more
abbrev pub granted : ℕ → Live → Live
granted row l = if nat_eq l.awaited 1 then record l { awaited = 0; stage = Recorded row phases.Ready } else record l { awaited = l.awaited - 1 }
