-- What the workers of a drive have in hand, and how a drive ends.
use Rattle.std.specs.Prelude.{◌≡◌, ◌≢◌, ℕ, ◌+◌, ◌<◌, ◌≤◌, ◌⊎◌, if◌then◌else◌, List, [], ◌∷◌, ◌++◌, length, map, take, Option, Some, None, Result, Ok, Err}
use Rattle.std.specs.Prelude.{slice_get}
use Rattle.std.specs.declared.vec.Vec.{Vec}
use Rattle.std.specs.declared.alloc.Global.{Global}
use Rattle.boc_program.specs.declared.program.Program.{Program}
use Rattle.boc_program.specs.Meaning.{Wish}
use Rattle.boc_runs.specs.Run.{next_wish}
use Rattle.boc_runs.specs.machine.Stages.{asks}
use Rattle.boc_runs.specs.machine.Steps.{State, at, members, IsQuiet}
use Rattle.boc_runs.specs.machine.Sound.{IsSound}
use Rattle.boc_runs.specs.machine.Turns.{IsEnqueueOf, Driven, Turn, Turns, opening_driven}
use Rattle.boc_eval.specs.Frames.{UnderWay as Framed, Ran}
use Rattle.boc_dispatch.specs.declared.calls.Mover.{Mover}
use Rattle.boc_dispatch.specs.declared.calls.Mover.TheVariants as movers
use Rattle.boc_dispatch.specs.declared.calls.OpenFault.TheVariants as open_faults
use Rattle.boc_dispatch.specs.declared.interleaving.DriveFault.{DriveFault}
use Rattle.boc_dispatch.specs.declared.interleaving.DriveFault.TheVariants as drive_faults
use Rattle.boc_dispatch.specs.declared.worker.Hand.{Hand}
use Rattle.boc_dispatch.specs.declared.worker.Due.TheVariants as dues
use Rattle.boc_dispatch.specs.declared.worker.Hand.TheVariants as hands
use Rattle.boc_dispatch.specs.declared.worker.Refusal.{Refusal}
use Rattle.boc_dispatch.specs.declared.worker.Refusal.TheVariants as refusals
use Rattle.boc_dispatch.specs.declared.worker.Worker.{Worker}
use Rattle.boc_dispatch.specs.Underway.{Underway}
use Rattle.boc_dispatch.specs.Calls.{IsHandedOut, HasNoRoom, HasSpawnedAll, MayAsk, IsLeaving}
use Rattle.boc_dispatch.specs.Working.{row_in, frame_of}

-- ---- what a worker has in hand fits the dispatcher

-- a frame of a row that runs, of which every wish that came was spawned
pub record IsFrameOf (u : Underway) (row : ℕ) (f : Framed) : Type 0 where
  pub handed : IsHandedOut u row f.body f.args f.inputs
  pub spawned : HasSpawnedAll u row f.made

-- a frame of a row whose last wish is the row's next
pub record IsWishing (u : Underway) (row : ℕ) (f : Framed) : Type 0 where
  pub may : MayAsk u f row
  pub wish : Wish
  pub next : next_wish u.program (slice_get (members u.program u.state) row) ≡ Some wish

-- a frame of a row whose open enqueue has this number: every wish that came was spawned, but the last while its enqueue asks
pub record IsEnqueuing (u : Underway) (f : Framed) (number row : ℕ) : Type 0 where
  pub handed : IsHandedOut u row f.body f.args f.inputs
  pub enqueue : IsEnqueueOf u.state number row
  pub came : f.made ≡ handed.member.spawned + (if asks (at u.state number) then 1 else 0)

-- what the body of a row that runs gave, whose wishes were all spawned
pub record IsOutcomeOf (u : Underway) (row : ℕ) (o : Ran) : Type 0 where
  pub handed : IsHandedOut u row o.body o.args o.inputs
  pub spawned : HasSpawnedAll u row o.wishes

-- what a worker has in hand is what the dispatcher handed out of the row that it serves
abbrev pub HandFits : Underway → Hand → Type 0
HandFits u hands.Nothing = Unit {0}
HandFits u (hands.Started job) = IsFrameOf u job.row (frame_of job)
HandFits u (hands.Framed row f dues.Going) = IsFrameOf u row f
HandFits u (hands.Framed row f dues.Wishing) = IsWishing u row f
HandFits u (hands.Framed row f (dues.Enqueuing child)) = IsEnqueuing u f child.number child.row
HandFits u (hands.Done row o) = IsOutcomeOf u row o
HandFits u (hands.Leaving l) = IsLeaving u.state l.row

-- a hand that fits before a turn does so after it
abbrev pub KeepsFitting : Underway → Hand → Underway → Hand → Type 0
KeepsFitting u h v k = IsSound u.program u.state → HandFits u h → HandFits v k

-- the fault by which a drive ends where its call is refused so; only an Open is ever refused, for want of room or memory
abbrev pub EndsFor : Refusal → DriveFault → Type 0
EndsFor (refusals.Open open_faults.Behaviours) fault = fault ≡ drive_faults.Behaviours
EndsFor (refusals.Open open_faults.Memory) fault = fault ≡ drive_faults.Memory
EndsFor _ fault = ⊥

-- each worker's hand fits, and no two serve the same row
pub record IsCrew (u : Underway) (workers : List Worker) : Type 0 where
  pub fits : (k : ℕ) (w : Worker) → slice_get workers k ≡ Some w → HandFits u w.hand
  pub apart : (j k row : ℕ) (v w : Worker) → slice_get workers j ≡ Some v → slice_get workers k ≡ Some w
      → row_in v.hand ≡ Some row → row_in w.hand ≡ Some row → j ≡ k

-- ---- how a drive ends

-- a program in a state
abbrev pub of_program : Program → State → Underway
of_program p s = record { program = p; state = s }

-- the turns of all choices lead there
pub record IsDriven (p : Program) (workers : ℕ) (choices : List ℕ) (u : Underway) : Type 0 where
  pub end : Driven
  pub turns : Turns p (opening_driven p workers) choices end
  pub same : u ≡ of_program p end.state

-- the choices before this place have their turns, and the choice at it is no worker
pub record HasNoWorker (p : Program) (workers : ℕ) (choices : List ℕ) (place : ℕ) : Type 0 where
  pub before : Driven
  pub turns : Turns p (opening_driven p workers) (take place choices) before
  pub choice : ℕ
  pub is : slice_get choices place ≡ Some choice
  pub past : workers ≤ choice

-- the choices before some place have their turns, and the worker of the choice at it has none, since its row's next wish is
-- due and there is no space for it
pub record RunsOutOfRows (p : Program) (workers : ℕ) (choices : List ℕ) : Type 0 where
  pub place : ℕ
  pub before : Driven
  pub turns : Turns p (opening_driven p workers) (take place choices) before
  pub choice : ℕ
  pub is : slice_get choices place ≡ Some choice
  pub below : choice < workers
  pub row : Option ℕ
  pub serves : slice_get before.serves choice ≡ Some row
  pub full : HasNoRoom (of_program p before.state) row
  pub none : (after : Driven) → Turn p before choice after → ⊥

-- the turns of the choices, folded; or the first place that has none decides, unless memory was refused first
abbrev pub Drives : Program → ℕ → List ℕ → Result Underway DriveFault → Type 0
Drives p workers choices (Ok u) = IsDriven p workers choices u
Drives p workers choices (Err (drive_faults.NoSuchWorker place)) = HasNoWorker p workers choices place
Drives p workers choices (Err drive_faults.Behaviours) = RunsOutOfRows p workers choices
Drives p workers choices (Err drive_faults.Memory) = Unit {0}

-- ---- a drive goes on until it is quiet

-- the row that each worker serves, if any
abbrev pub rows_of : List Worker → List (Option ℕ)
rows_of crew = map (λ (w : Worker). row_in w.hand) crew

-- the choices before a place have had their turns
pub record IsAt (p : Program) (workers : ℕ) (choices : List ℕ) (place : ℕ) (u : Underway) (crew : List Worker) : Type 0 where
  pub program : u.program ≡ p
  pub count : length crew ≡ workers
  pub fits : IsCrew u crew
  pub turns : Turns p (opening_driven p workers) (take place choices) (record { state = u.state; serves = rows_of crew })

-- all choices have had their turns, and the workers fit; or the drive ended so
abbrev pub HasPlayed : Program → ℕ → List ℕ → Result (Vec Worker Global × Underway) DriveFault → Type 0
HasPlayed p workers choices (Ok (crew, u)) = IsAt p workers choices (length choices) u crew.items
HasPlayed p workers choices (Err fault) = Drives p workers choices (Err fault)

-- the row that is served by who is to have a turn for a mover: nobody's, where a row is to start
abbrev pub row_for : Mover → Option ℕ
row_for (movers.Ready row) = None
row_for (movers.Running row) = Some row
row_for (movers.Enqueuing child) = Some child.row
row_for (movers.Leaving leaving) = Some leaving.row

-- of the workers that serve what this one does, which may be nothing, it is the first
abbrev pub IsFirst : Driven → ℕ → Type 0
IsFirst d worker = (k : ℕ) → k < worker → slice_get d.serves k ≢ slice_get d.serves worker

-- further turns, one after the other: each makes a step, and is that of the first worker that serves what it serves
abbrev pub TurnsOn : Program → Driven → List ℕ → Driven → Type 0
TurnsOn p d [] e = e ≡ d
TurnsOn p d (worker ∷ workers) e =
    (next : Driven) × Turn p d worker next × IsFirst d worker × (next.state.steps ≡ d.state.steps + 1) × TurnsOn p next workers e

-- the turns of all choices, and some further ones, lead there
pub record IsDrivenOn (p : Program) (workers : ℕ) (choices : List ℕ) (end : Driven) : Type 0 where
  pub played : Driven
  pub turns : Turns p (opening_driven p workers) choices played
  pub more : List ℕ
  pub on : TurnsOn p played more end

-- they lead to where the worker of the next further turn has none, since its row's next wish is due and there is no space for it
pub record RunsOutLater (p : Program) (workers : ℕ) (choices : List ℕ) : Type 0 where
  pub before : Driven
  pub on : IsDrivenOn p workers choices before
  pub worker : ℕ
  pub first : IsFirst before worker
  pub row : Option ℕ
  pub serves : slice_get before.serves worker ≡ Some row
  pub full : HasNoRoom (of_program p before.state) row
  pub none : (after : Driven) → Turn p before worker after → ⊥

-- The turns of the choices and some further ones, and it is quiet there; or the fault of a drive by these. With no workers
-- the first further choice, of worker 0, is no worker.
abbrev pub DrivesQuiet : Program → ℕ → List ℕ → Result Underway DriveFault → Type 0
DrivesQuiet p workers choices (Ok u) =
    (end : Driven) × IsDrivenOn p workers choices end × (u ≡ of_program p end.state) × IsQuiet u.state
DrivesQuiet p workers choices (Err (drive_faults.NoSuchWorker place)) = HasNoWorker p workers (choices ++ 0 ∷ []) place
DrivesQuiet p workers choices (Err drive_faults.Behaviours) = RunsOutOfRows p workers choices ⊎ RunsOutLater p workers choices
DrivesQuiet p workers choices (Err drive_faults.Memory) = Unit {0}
