-- Timed runs: turns of the workers that are due first, until all is over.
use Rattle.std.specs.Prelude.{◌≡◌, ℕ, List, [], ◌∷◌, ◌++◌, length, Option, Some, None, Result, Ok, Err, slice_get}
use Rattle.std.specs.Option.{is_some}
use Rattle.boc_program.specs.declared.program.Program.{Program}
use Rattle.boc_runs.specs.Records.{IsRecord, IsRecordOf}
use Rattle.boc_runs.specs.machine.AlongRows.{EndsSerially}
use Rattle.boc_runs.specs.machine.Steps.{IsQuiet, recorded, values}
use Rattle.boc_runs.specs.machine.Turns.{Driven, Turn, opening_driven}
use Rattle.boc_dispatch.specs.declared.interleaving.DriveFault.{DriveFault}
use Rattle.boc_dispatch.specs.declared.interleaving.DriveFault.TheVariants as drive_faults
use Rattle.boc_dispatch.specs.Underway.{Underway}
use Rattle.boc_dispatch.specs.Calls.{HasNoRoom}
use Rattle.boc_dispatch.specs.Driving.{of_program}
use Rattle.boc_dispatch.specs.NextCalls.{TellsCallOf}
use Rattle.boc_draws.specs.Draws.{AreMovers}
use Rattle.boc_clock.specs.declared.clocks.Clocks.{Clocks}
use Rattle.boc_clock.specs.Clocks.{IsDueFirst, first_clocks, moved_on, time_of}
use Rattle.boc_timed.specs.declared.timetable.Timetable.{Timetable}
use Rattle.boc_timed.specs.declared.timing.TimedRun.{TimedRun}
use Rattle.boc_timed.specs.declared.fault.TimedFault.{TimedFault}
use Rattle.boc_timed.specs.declared.fault.TimedFault.TheVariants as faults

-- ---- turns of those that are due first

-- of those that can move this one is due first; of two that are due at one time a busy one before an idle one, and then the one of the smaller number
pub record IsDue (p : Program) (d : Driven) (c : Clocks) (worker : ℕ) : Type 0 where
  pub movers : List ℕ
  pub are : AreMovers p d movers
  pub place : ℕ
  pub is : slice_get movers place ≡ Some worker
  pub first : IsDueFirst c movers place

-- Behind a worker's turn the clocks have moved on: the worker serves this row, if any, and where a call of that begins, it is at so many of its ticks.
pub record MovesOn (p : Program) (d : Driven) (c : Clocks) (worker : ℕ) (later : Clocks) : Type 0 where
  pub row : Option ℕ
  pub serves : slice_get d.serves worker ≡ Some row
  pub call : Option ℕ
  pub tells : TellsCallOf p d.state row call
  pub clocks : later ≡ moved_on c worker (is_some row) call

-- turns of these workers, one after the other, each of the one that is due first, lead there, and the clocks with them
abbrev pub TimedTurns : Program → Driven → Clocks → List ℕ → Driven → Clocks → Type 0
TimedTurns p d c [] e later = (e ≡ d) × (later ≡ c)
TimedTurns p d c (worker ∷ workers) e later =
    (next : Driven) × (on : Clocks) × IsDue p d c worker × Turn p d worker next × MovesOn p next c worker on × TimedTurns p next on workers e later

-- so many workers come there from the opening by the turns of these, each of the one that is due first
abbrev pub TimesTo : Program → ℕ → List ℕ → Driven → Clocks → Type 0
TimesTo p workers choices e later = TimedTurns p (opening_driven p workers) first_clocks choices e later

-- ---- when rows start

-- In these turns a worker that was idle starts this row, at the time of its next step then.
pub record StartsAt (p : Program) (workers : ℕ) (choices : List ℕ) (row time worker : ℕ) : Type 0 where
  pub before : List ℕ
  pub after : List ℕ
  pub split : choices ≡ before ++ worker ∷ after
  pub stands : Driven
  pub clocks : Clocks
  pub turns : TimesTo p workers before stands clocks
  pub idle : slice_get stands.serves worker ≡ Some None
  pub next : Driven
  pub turn : Turn p stands worker next
  pub serves : slice_get next.serves worker ≡ Some (Some row)
  pub time_is : time ≡ time_of clocks worker

-- so many rows have a start and a worker each, and start so in these turns
pub record IsTimetable (p : Program) (workers : ℕ) (choices : List ℕ) (rows : ℕ) (starts on : List ℕ) : Type 0 where
  pub whole : length starts ≡ rows
  pub all_served : length on ≡ rows
  pub at : (row time worker : ℕ) → slice_get starts row ≡ Some time → slice_get on row ≡ Some worker → StartsAt p workers choices row time worker

-- the timetable of so many rows that start so, by so many workers
pub record IsTimetableOf (p : Program) (workers : ℕ) (choices : List ℕ) (rows : ℕ) (t : Timetable) : Type 0 where
  pub p_is : t.p ≡ workers
  pub are : IsTimetable p workers choices rows t.starts.items t.workers.items

-- ---- how a timed run ends

-- The turns of those that are due first lead to where all is over. What is answered is the record of that run: a whole run of the program and of no other
-- rows, each of which ended as in the serial run along the rows; with the values that the cowns have then, how many steps were made, and when each of its
-- rows started, on which worker.
pub record IsTimedRun (p : Program) (workers : ℕ) (timed : TimedRun) : Type 0 where
  pub choices : List ℕ
  pub end : Driven
  pub later : Clocks
  pub turns : TimesTo p workers choices end later
  pub quiet : IsQuiet end.state
  pub events : timed.record.events ≡ end.state.log
  pub run : IsRecordOf p timed.record
  pub whole : IsRecord timed.record
  pub ends : EndsSerially p timed.record.events
  pub values_are : timed.values.items ≡ values p end.state
  pub steps_are : timed.steps ≡ end.state.steps
  pub scheduled : IsTimetableOf p workers choices (length timed.record.rows) timed.timetable

-- The turns of those that are due first lead to where the next one that is due has none, since its row's next wish is due and there is no room for it.
pub record RunsOut (p : Program) (workers : ℕ) : Type 0 where
  pub choices : List ℕ
  pub before : Driven
  pub later : Clocks
  pub turns : TimesTo p workers choices before later
  pub worker : ℕ
  pub due : IsDue p before later worker
  pub row : Option ℕ
  pub serves : slice_get before.serves worker ≡ Some row
  pub full : HasNoRoom (of_program p before.state) row
  pub none : (after : Driven) → Turn p before worker after → ⊥

-- what is answered: the run; or that there was no room for a behaviour; unless memory was refused first
abbrev pub IsTimed : Program → ℕ → Result TimedRun TimedFault → Type 0
IsTimed p workers (Ok run) = IsTimedRun p workers run
IsTimed p workers (Err faults.Behaviours) = RunsOut p workers
IsTimed p workers (Err faults.Memory) = Unit {0}

-- ---- on the way

-- the turns of those that are due lead there, and all is over
pub record PlaysTo (p : Program) (workers : ℕ) (t : Timetable) (u : Underway) : Type 0 where
  pub choices : List ℕ
  pub end : Driven
  pub later : Clocks
  pub turns : TimesTo p workers choices end later
  pub is : u ≡ of_program p end.state
  pub quiet : IsQuiet u.state
  pub scheduled : IsTimetableOf p workers choices (recorded p end.state) t

-- the same; or the run ends so
abbrev pub Plays : Program → ℕ → Timetable → Result Underway TimedFault → Type 0
Plays p workers t (Ok u) = PlaysTo p workers t u
Plays p workers t (Err fault) = IsTimed p workers (Err fault)

-- the fault of a timed run where a turn has this one
abbrev pub EndsBy : DriveFault → TimedFault → Type 0
EndsBy drive_faults.Behaviours fault = fault ≡ faults.Behaviours
EndsBy drive_faults.Memory fault = fault ≡ faults.Memory
EndsBy (drive_faults.NoSuchWorker place) fault = ⊥
