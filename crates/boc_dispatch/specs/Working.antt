-- What a worker has in hand, and what its turns and its thinking do.
use Rattle.std.specs.Prelude.{◌≡◌, ℕ, [], Option, Some, None, Result, Ok, Err, false, true}
use Rattle.std.specs.declared.alloc.AllocError.{AllocError}
use Rattle.boc_runs.specs.declared.step.Step.{Step}
use Rattle.boc_program.specs.Meaning.{Wish}
use Rattle.boc_runs.specs.machine.Steps.{IsQuiet, Makes}
use Rattle.boc_runs.specs.machine.Turns.{TakesTurn}
use Rattle.boc_eval.specs.Frames.{UnderWay as Framed, Ran, Means}
use Rattle.boc_eval.specs.Stops.{WishComes, BodyEnds}
use Rattle.boc_dispatch.specs.declared.calls.Advanced.TheVariants as advanced
use Rattle.boc_dispatch.specs.declared.calls.Child.{Child}
use Rattle.boc_dispatch.specs.declared.calls.Job.{Job}
use Rattle.boc_dispatch.specs.declared.calls.Left.TheVariants as left
use Rattle.boc_dispatch.specs.declared.worker.Hand.{Hand}
use Rattle.boc_dispatch.specs.declared.worker.Due.TheVariants as dues
use Rattle.boc_dispatch.specs.declared.worker.Hand.TheVariants as hands
use Rattle.boc_dispatch.specs.declared.worker.Refusal.{Refusal}
use Rattle.boc_dispatch.specs.declared.worker.Refusal.TheVariants as refusals
use Rattle.boc_dispatch.specs.declared.worker.Turn.{Turn}
use Rattle.boc_dispatch.specs.declared.worker.Turn.TheVariants as turns
use Rattle.boc_dispatch.specs.Underway.{Underway}
use Rattle.boc_dispatch.specs.Calls.{OpensWish, FinishesRow, AdvancesChild, LeavesCown}

-- the row that is served with this in hand, if any
abbrev pub row_in : Hand → Option ℕ
row_in hands.Nothing = None
row_in (hands.Started job) = Some job.row
row_in (hands.Framed row f dues.Going) = Some row
row_in (hands.Framed row f dues.Wishing) = Some row
row_in (hands.Framed row f (dues.Enqueuing child)) = Some child.row
row_in (hands.Done row o) = Some row
row_in (hands.Leaving l) = Some l.row

-- ---- turns

-- a step was made in the worker's turn
pub record MakesTurn (u : Underway) (before : Hand) (step : Step) (v : Underway) (after : Hand) : Type 0 where
  pub takes : TakesTurn u.program u.state (row_in before) v.state (row_in after)
  pub makes : Makes u.program u.state step v.state
  pub same : v.program ≡ u.program

-- the worker serves a row, and what is due of that is blocked: its turn changes nothing
pub record WaitsInTurn (u : Underway) (h : Hand) : Type 0 where
  pub row : ℕ
  pub serves : row_in h ≡ Some row
  pub takes : TakesTurn u.program u.state (Some row) u.state (Some row)

-- the worker is to think first
abbrev pub IsToThink : Hand → Type 0
IsToThink (hands.Started job) = Unit {0}
IsToThink (hands.Framed row f dues.Going) = Unit {0}
IsToThink _ = ⊥

-- the call that is due is refused so
abbrev pub IsRefused : Underway → Hand → Refusal → Type 0
IsRefused u (hands.Framed row f dues.Wishing) (refusals.Open fault) = OpensWish u f row (Err fault) u
IsRefused u (hands.Done row o) (refusals.Finish fault) = FinishesRow u row o (Err (o, fault)) u
IsRefused u (hands.Framed row f (dues.Enqueuing child)) refusals.Unknown = AdvancesChild u child advanced.Unknown u
IsRefused u (hands.Leaving l) refusals.Unknown = LeavesCown u l left.Unknown u
IsRefused u _ _ = ⊥

-- the one call that is due was made; or nothing changed, for this reason
abbrev pub Works : Underway → Hand → Turn → Underway → Hand → Type 0
Works u h (turns.Moved step) v k = MakesTurn u h step v k
Works u h turns.Blocked v k = (v ≡ u) × (k ≡ h) × WaitsInTurn u h
Works u h turns.NoneReady v k = (v ≡ u) × (k ≡ h) × (h ≡ hands.Nothing) × (u.state.ready ≡ []) × (IsQuiet u.state → ⊥)
Works u h turns.Quiet v k = (v ≡ u) × (k ≡ h) × (h ≡ hands.Nothing) × (u.state.ready ≡ []) × IsQuiet u.state
Works u h turns.Thinks v k = (v ≡ u) × (k ≡ h) × IsToThink h
Works u h (turns.Refused refusal) v k = (v ≡ u) × (k ≡ h) × IsRefused u h refusal

-- a row's wish is being enqueued under this token
abbrev pub Enqueues : Hand → Child → Type 0
Enqueues h child = (row : ℕ) × (f : Framed) × (h ≡ hands.Framed row f (dues.Enqueuing child))

-- a row wishes for a behaviour
abbrev pub Wishes : Hand → Type 0
Wishes h = (row : ℕ) × (f : Framed) × (h ≡ hands.Framed row f dues.Wishing)

-- a row's body has ended, and its end is due
abbrev pub IsDone : Hand → Type 0
IsDone h = (row : ℕ) × (o : Ran) × (h ≡ hands.Done row o)

-- ---- thinking

-- a behaviour was started, and its frame is to be made
abbrev pub IsStarted : Hand → Type 0
IsStarted h = (job : Job) × (h ≡ hands.Started job)

-- a row's frame is to go on
abbrev pub Goes : Hand → Type 0
Goes h = (row : ℕ) × (f : Framed) × (h ≡ hands.Framed row f dues.Going)

-- a row's frame has ended
abbrev pub IsEnded : Hand → Type 0
IsEnded (hands.Framed row f due) = f.ended ≡ true
IsEnded _ = ⊥

-- a row's frame that has ended gave what its body means
abbrev pub HasGiven : Hand → Hand → Type 0
HasGiven (hands.Framed row f due) (hands.Done own o) =
    (own ≡ row) × (o.body ≡ f.body) × (o.args ≡ f.args) × (o.inputs ≡ f.inputs) × (o.wishes ≡ f.made) × Means o
HasGiven _ _ = ⊥

-- what a body gave that has ended from here on
pub record EndsAs (f : Framed) (o : Ran) : Type 0 where
  pub ended : Framed
  pub ends : BodyEnds f ended
  pub body : o.body ≡ f.body
  pub args : o.args ≡ f.args
  pub inputs : o.inputs ≡ f.inputs
  pub wishes : o.wishes ≡ f.made
  pub means : Means o

-- a frame has gone on to its next wish, or its end
abbrev pub HasGoneOn : ℕ → Framed → Hand → Type 0
HasGoneOn row f (hands.Framed own g dues.Wishing) = (own ≡ row) × ((w : Wish) × WishComes w f g)
HasGoneOn row f (hands.Done own o) = (own ≡ row) × EndsAs f o
HasGoneOn row f _ = ⊥

-- the frame of a job at its start
abbrev pub frame_of : Job → Framed
frame_of job = record { body = job.body; args = job.args.items; inputs = job.inputs.items; made = 0; ended = false }

-- a worker has thought; or memory was refused for the frame of a behaviour that was just started, and it has what it had
abbrev pub HasThought : Hand → Result (Unit {0}) AllocError → Hand → Type 0
HasThought (hands.Started job) (Ok _) k = HasGoneOn job.row (frame_of job) k
HasThought (hands.Started job) (Err refused) k = k ≡ hands.Started job
HasThought (hands.Framed row f dues.Going) (Ok _) k = HasGoneOn row f k
HasThought h (Ok _) k = k ≡ h
HasThought h (Err refused) k = ⊥
