-- Whether a record is that of a run of a program, and where it strays from it.
use Rattle.std.specs.Prelude.{◌≡◌, ◌≢◌, ℕ, ◌+◌, List, take, Result, Ok, Err, Some, slice_get, codes}
use Rattle.boc_runs.specs.declared.event.Event.{Event}
use Rattle.boc_runs.specs.declared.event.Event.TheVariants.{Spawn, End}
use Rattle.boc_program.specs.declared.program.Program.{Program}
use Rattle.boc_program.specs.Programs.{cown_count}
use Rattle.boc_runs.specs.Records.{Recorded, IsRecordOf}
use Rattle.boc_runs.specs.Run.{config_of, MayHappen, IsRun}
use Rattle.boc_follow.specs.Following.{Following}
use Rattle.boc_follow.specs.declared.stray.StrayFault.{StrayFault}
use Rattle.boc_follow.specs.declared.stray.StrayFaultKind.{StrayFaultKind}
use Rattle.boc_follow.specs.declared.stray.StrayFaultKind.TheVariants as strays

-- the events before a place are a run of the program, and the one there is not allowed next
pub record IsRefusedAt (p : Program) (events : List Event) (place : ℕ) : Type 0 where
  pub event : Event
  pub is : slice_get events place ≡ Some event
  pub before : IsRun p (take place events)
  pub refused : MayHappen p (config_of p (take place events)) event → ⊥

-- a refused event is told so: a spawn as not the next, and an end as not its row's
abbrev pub IsToldAs : StrayFaultKind → Event → Type 0
IsToldAs strays.NotNextSpawn (Spawn row parent offset cowns) = Unit {0}
IsToldAs strays.NotItsEnd (End row ticks status written) = Unit {0}
IsToldAs _ _ = ⊥

-- The cowns are as many as the program's, and the first event that it doesn't allow is told as this kind of fault, by its line in the record's text: the first
-- line tells the cowns, and behind it each event has a line.
pub record IsRefusedOn (p : Program) (r : Recorded) (kind : StrayFaultKind) (line : ℕ) : Type 0 where
  pub cowns : r.cowns ≡ cown_count p.cowns
  pub place : ℕ
  pub refused : IsRefusedAt p r.events place
  pub told : IsToldAs kind refused.event
  pub line_is : line ≡ place + 2

-- how a record strays from a program, and on which line of its text first: the first line tells other cowns, or the program refuses a spawn or an end
abbrev pub Strays : Program → Recorded → StrayFaultKind → ℕ → Type 0
Strays p r strays.OtherCowns line = (r.cowns ≢ cown_count p.cowns) × (line ≡ 1)
Strays p r strays.NotNextSpawn line = IsRefusedOn p r strays.NotNextSpawn line
Strays p r strays.NotItsEnd line = IsRefusedOn p r strays.NotItsEnd line
Strays p r strays.Memory line = ⊥

-- what a fault says: the record strays so, and is that of no run of the program; or memory was refused, which says nothing of the record
abbrev pub Tells : Program → Recorded → StrayFaultKind → ℕ → Type 0
Tells p r strays.Memory line = line ≡ 0
Tells p r kind line = Strays p r kind line × (IsRecordOf p r → ⊥)

-- the record is that of a run of the program, which was followed to its end, or it is told why not
abbrev pub Follows : Program → Recorded → Result Following StrayFault → Type 0
Follows p r (Ok f) = IsRecordOf p r × (f ≡ record { program = p; log = r.events })
Follows p r (Err fault) = Tells p r fault.kind fault.line

-- all events of a record, which has as many cowns as the program, were taken, or it is told why not
abbrev pub FollowsAll : Program → Recorded → Result (Unit {0}) StrayFault → Following → Type 0
FollowsAll p r (Ok _) f = IsRun p r.events × (f ≡ record { program = p; log = r.events })
FollowsAll p r (Err fault) f = Tells p r fault.kind fault.line

-- the number and the name of a kind of fault
abbrev pub kind_line : StrayFaultKind → List ℕ
kind_line strays.OtherCowns = codes "15 OtherCowns"
kind_line strays.NotNextSpawn = codes "16 NotNextSpawn"
kind_line strays.NotItsEnd = codes "17 NotItsEnd"
kind_line strays.Memory = codes "18 Memory"
