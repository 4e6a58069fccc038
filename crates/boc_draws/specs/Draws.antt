-- What a draw is: turns of the workers that are picked, until all is over.
use Rattle.std.specs.Prelude.{◌≡◌, ℕ, ◌<◌, List, [], ◌∷◌, Option, Some, Result, Ok, Err, slice_get}
use Rattle.std.specs.List.{AllPairs, Contains}
use Rattle.boc_program.specs.declared.program.Program.{Program}
use Rattle.boc_runs.specs.Records.{IsRecord, IsRecordOf}
use Rattle.boc_runs.specs.machine.AlongRows.{EndsSerially}
use Rattle.boc_runs.specs.machine.Steps.{IsQuiet, values}
use Rattle.boc_runs.specs.machine.Turns.{Driven, Turn, opening_driven}
use Rattle.boc_dispatch.specs.declared.interleaving.DriveFault.{DriveFault}
use Rattle.boc_dispatch.specs.declared.interleaving.DriveFault.TheVariants as drive_faults
use Rattle.boc_dispatch.specs.declared.worker.Worker.{Worker}
use Rattle.boc_dispatch.specs.Underway.{Underway}
use Rattle.boc_dispatch.specs.Calls.{HasNoRoom}
use Rattle.boc_dispatch.specs.Driving.{of_program, rows_of}
use Rattle.boc_dispatch.specs.Stepping.{CanTurn}
use Rattle.boc_draws.specs.declared.drawing.Drawn.{Drawn}
use Rattle.boc_draws.specs.declared.fault.DrawFault.{DrawFault}
use Rattle.boc_draws.specs.declared.fault.DrawFault.TheVariants as faults
use Rattle.boc_draws.specs.declared.picker.Picker.{Picker}
use Rattle.boc_draws.specs.declared.way.Way.{Way}
use Rattle.boc_draws.specs.Picks.{picker_of, picked}

-- ---- who can move

-- The worker of this number can move: its turn makes a step; or it would, but that the next wish of the row that it serves is due
-- and there is no room for it.
pub record CanMove (p : Program) (d : Driven) (worker : ℕ) : Type 0 where
  pub row : Option ℕ
  pub serves : slice_get d.serves worker ≡ Some row
  pub turns : CanTurn (of_program p d.state) row

-- these are the workers that can move, in rising order
pub record AreMovers (p : Program) (d : Driven) (movers : List ℕ) : Type 0 where
  pub rising : AllPairs (λ x y. x < y) movers
  pub can : (worker : ℕ) → Contains movers worker → CanMove p d worker
  pub all : (worker : ℕ) → CanMove p d worker → Contains movers worker

-- ---- turns of those that are picked

-- of those that can move this one is picked, and what picks the next one is this
pub record Picks (p : Program) (d : Driven) (picker : Picker) (worker : ℕ) (later : Picker) : Type 0 where
  pub movers : List ℕ
  pub are : AreMovers p d movers
  pub pick : picked picker d.state.steps movers ≡ (Some worker, later)

-- turns of these workers, one after the other, each of the one that is picked, lead there
abbrev pub PickedTurns : Program → Driven → Picker → List ℕ → Driven → Picker → Type 0
PickedTurns p d picker [] e later = (e ≡ d) × (later ≡ picker)
PickedTurns p d picker (worker ∷ workers) e later =
    (next : Driven) × (on : Picker) × Picks p d picker worker on × Turn p d worker next × PickedTurns p next on workers e later

-- so many workers, picked in this way by the words of this seed, come there from the opening by the turns of these
abbrev pub DrawsTo : Program → ℕ → Way → ℕ → List ℕ → Driven → Picker → Type 0
DrawsTo p workers way seed choices e later = PickedTurns p (opening_driven p workers) (picker_of way workers seed) choices e later

-- ---- how a draw ends

-- The turns of those that are picked lead to where all is over. What was drawn is the record of that run: a whole run of the program
-- and of no other rows, each of which ended as in the serial run along the rows; with the values that the cowns have then, and how many
-- steps were made.
pub record IsDrawn (p : Program) (workers : ℕ) (way : Way) (seed : ℕ) (drawn : Drawn) : Type 0 where
  pub choices : List ℕ
  pub end : Driven
  pub later : Picker
  pub turns : DrawsTo p workers way seed choices end later
  pub quiet : IsQuiet end.state
  pub events : drawn.record.events ≡ end.state.log
  pub run : IsRecordOf p drawn.record
  pub whole : IsRecord drawn.record
  pub ends : EndsSerially p drawn.record.events
  pub values_are : drawn.values.items ≡ values p end.state
  pub steps_are : drawn.steps ≡ end.state.steps

-- The turns of those that are picked lead to where the next one that is picked has none, since its row's next wish is due and there is no
-- room for it.
pub record RunsOut (p : Program) (workers : ℕ) (way : Way) (seed : ℕ) : Type 0 where
  pub choices : List ℕ
  pub before : Driven
  pub later : Picker
  pub turns : DrawsTo p workers way seed choices before later
  pub worker : ℕ
  pub on : Picker
  pub picks : Picks p before later worker on
  pub row : Option ℕ
  pub serves : slice_get before.serves worker ≡ Some row
  pub full : HasNoRoom (of_program p before.state) row
  pub none : (after : Driven) → Turn p before worker after → ⊥

-- what a draw answers: what was drawn; or that there was no room for a behaviour; unless memory was refused first
abbrev pub IsDraw : Program → ℕ → Way → ℕ → Result Drawn DrawFault → Type 0
IsDraw p workers way seed (Ok drawn) = IsDrawn p workers way seed drawn
IsDraw p workers way seed (Err faults.Behaviours) = RunsOut p workers way seed
IsDraw p workers way seed (Err faults.Memory) = Unit {0}

-- ---- on the way

-- where a dispatcher and its workers stand
abbrev pub stands_at : Underway → List Worker → Driven
stands_at u crew = record { state = u.state; serves = rows_of crew }

-- the turns of those that are picked lead there, and all is over; or the draw ends so
abbrev pub Plays : Program → ℕ → Way → ℕ → Result Underway DrawFault → Type 0
Plays p workers way seed (Ok u) =
    (choices : List ℕ) × (end : Driven) × (later : Picker) × DrawsTo p workers way seed choices end later × (u ≡ of_program p end.state) × IsQuiet u.state
Plays p workers way seed (Err fault) = IsDraw p workers way seed (Err fault)

-- the fault of a draw where a turn has this one
abbrev pub EndsBy : DriveFault → DrawFault → Type 0
EndsBy drive_faults.Behaviours fault = fault ≡ faults.Behaviours
EndsBy drive_faults.Memory fault = fault ≡ faults.Memory
EndsBy (drive_faults.NoSuchWorker place) fault = ⊥
