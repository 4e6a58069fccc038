-- What the functions of the roster do to what it has in hand.
use Rattle.std.specs.Prelude.{◌≡◌, ◌≢◌, ℕ, ◌+◌, ◌^◌, ◌<◌, Bool, true, false, List, [], ◌∷◌, ◌++◌, ℤ, length, slice_set, Option, Some, None, Result, Ok, Err}
use Rattle.boc_program.specs.declared.body.Body.{Body}
use Rattle.boc_program.specs.declared.short.Input.{Input}
use Rattle.boc_eval.specs.Frames.{UnderWay as Framed}
use Rattle.boc_runs.specs.declared.stage.Phase.TheVariants.{Leaving as LeavingPhase, Running as RunningPhase}
use Rattle.boc_runs.specs.declared.stage.Stage.TheVariants.{Recorded}
use Rattle.boc_runs.specs.declared.step.Step.TheVariants.{Settle}
use Rattle.boc_runs.specs.machine.Stages.{enqueues_at}
use Rattle.boc_runs.specs.machine.Steps.{at, HasNoEnqueue, Opens, Starts, Settles, Finishes, Leaves, IsBlockedAsking, IsBlockedLeaving}
use Rattle.boc_runs.specs.machine.Movers.{NobodyWorks, CanAdvance, CanLeave}
use Rattle.boc_dispatch.specs.declared.calls.Advanced.{Advanced}
use Rattle.boc_dispatch.specs.declared.calls.Advanced.TheVariants as advanced
use Rattle.boc_dispatch.specs.declared.calls.Child.{Child}
use Rattle.boc_dispatch.specs.declared.calls.Job.{Job}
use Rattle.boc_dispatch.specs.declared.calls.Left.{Left}
use Rattle.boc_dispatch.specs.declared.calls.Left.TheVariants as left
use Rattle.boc_dispatch.specs.declared.calls.Mover.{Mover}
use Rattle.boc_dispatch.specs.declared.live.Live.{Live}
use Rattle.boc_dispatch.specs.declared.roster.Enqueue.{Enqueue}
use Rattle.boc_dispatch.specs.Calls.{IsHandedOut, CanMove}
use Rattle.boc_runs.specs.Legal.{IsAllowed, entries}
use Rattle.boc_rules.specs.Log.{grown}
use Rattle.boc_dispatch.specs.Places.{with_child, with_spawn, with_row, spawn_of}
use Rattle.boc_dispatch.specs.Inside.{Parts, state, underway, live_at, HasInHand, IsAtStage, Stays}

-- ---- a spawn is recorded

-- the spawn of the behaviour at a slot can be recorded, by its parent's: both are there, there is room, and the rules allow it
pub record MayRecord (d : Parts) (homes_room parent slot : ℕ) : Type 0 where
  pub recorder : Live
  pub this : Live
  pub recorder_is : live_at d.live parent ≡ Some recorder
  pub this_is : live_at d.live slot ≡ Some this
  pub apart : slot ≢ parent
  pub few : recorder.spawned + 1 < 2 ^ 32
  pub row_fits : length d.homes < 2 ^ 32
  pub allowed : IsAllowed d.log.cowns (entries d.log.events) (spawn_of (length d.homes) this)
  pub room : 0 < d.log.rooms
  pub home : length d.homes < homes_room

-- it is recorded: the one at its slot has a row, which has this slot as its home, and the parent has one more spawned
abbrev pub recorded : Parts → ℕ → ℕ → Live → Live → Parts
recorded d parent slot recorder this = record d {
  live = slice_set (slice_set d.live parent (Some (with_spawn recorder))) slot (Some (with_row (length d.homes) this));
  homes = d.homes ++ slot ∷ [];
  log = grown d.log (spawn_of (length d.homes) this);
}

-- that, where it is so
abbrev pub Records : Parts → ℕ → ℕ → Parts → Type 0
Records d parent slot e =
    (recorder this : Live) → live_at d.live parent ≡ Some recorder → live_at d.live slot ≡ Some this → e ≡ recorded d parent slot recorder this

-- with this table
abbrev pub with_table : List (Option Live) → Parts → Parts
with_table live d = record d { live = live }

-- with nobody at a slot
abbrev pub vacated : ℕ → Parts → Parts
vacated slot d = with_table (slice_set d.live slot None) d

-- one step more
abbrev pub counted : Parts → Parts
counted d = record d { steps = d.steps + 1 }

-- ---- a child is put into its slot

-- a child of a behaviour, this one, is at a slot; the behaviour has it in hand
abbrev pub with_new_child : Parts → ℕ → ℕ → Live → Live → Parts
with_new_child d parent slot this child = record d {
  live = slice_set (slice_set d.live slot (Some child)) parent (Some (with_child (Some slot) this));
  opened = d.opened + 1;
  steps = d.steps + 1;
}

-- a child of the behaviour at a slot can be put into its own: that is in the table, and where the child has no cowns its spawn can be recorded
pub record MayPut (d : Parts) (homes_room parent slot : ℕ) (child : Live) : Type 0 where
  pub this : Live
  pub is : live_at d.live parent ≡ Some this
  pub apart : parent ≢ slot
  pub there : slot < length d.live
  pub opened_fits : d.opened + 1 < 2 ^ 32
  pub steps_fit : d.steps + 1 < 2 ^ 64
  pub may : length child.cowns.items ≡ 0 → MayRecord (with_new_child d parent slot this child) homes_room parent slot

-- it is put there, and asks; or its spawn is recorded, where it has no cowns
pub record Puts (d : Parts) (parent slot : ℕ) (child this : Live) (e : Parts) : Type 0 where
  pub asks : 0 < length child.cowns.items → e ≡ with_new_child d parent slot this child
  pub records : length child.cowns.items ≡ 0 → Records (with_new_child d parent slot this child) parent slot e

-- ---- what the public functions do

-- the first of the ready list started as this row, on this body, these arguments and inputs
abbrev pub StartsRow : Parts → ℕ → Body → List ℤ → List Input → Parts → Type 0
StartsRow d row body args inputs e =
    (who : ℕ) × Starts (state d) who row (state e) × (e.program ≡ d.program) × IsHandedOut (underway e) row body args inputs

-- the first of the ready list started, and this is what its body is to be run on; or none is ready
abbrev pub StartsJob : Parts → Option Job → Parts → Type 0
StartsJob d None e = Stays d e × ((state d).ready ≡ [])
StartsJob d (Some job) e = StartsRow d job.row job.body job.args.items job.inputs.items e

-- the first of the ready list started, and this is its row, and its body at its start; or none is ready
abbrev pub StartsFrame : Parts → Option (ℕ × Framed) → Parts → Type 0
StartsFrame d None e = Stays d e × ((state d).ready ≡ [])
StartsFrame d (Some (row, f)) e = StartsRow d row f.body f.args f.inputs e × (f.made ≡ 0)

-- the next wish of a row is opened, under this token; or memory was refused, and nothing changed
abbrev pub OpensChild : {A : Type 0} → Parts → ℕ → Result Child A → Parts → Type 0
OpensChild d row (Ok child) e =
    Opens d.program (state d) row (state e) × (e.program ≡ d.program) × (child.number ≡ d.opened) × (child.row ≡ row)
OpensChild d row (Err refused) e = Stays d e

-- the slots of an open enqueue's parent and of itself, and how far it is
pub record IsFoundEnqueue (d : Parts) (number row : ℕ) (found : Enqueue) : Type 0 where
  pub this : Live
  pub is : IsAtStage d found.slot this found.stage
  pub number_is : this.number ≡ number
  pub parent_is : this.parent ≡ row
  pub enqueued : enqueues_at found.stage ≡ true
  pub held : HasInHand d found.parent (Some found.slot)

-- the request of the behaviour at a slot is settled; or that is blocked, and nothing changed
abbrev pub SettlesNext : Parts → ℕ → ℕ → Advanced → Parts → Type 0
SettlesNext d who request (advanced.Moved step) e =
    (step ≡ Settle request) × Settles d.program (state d) who request (state e) × (e.program ≡ d.program)
SettlesNext d who request advanced.Blocked e = Stays d e × IsBlockedAsking (state d) who
SettlesNext d who request _ e = ⊥

-- the behaviour of a number and a row ended, and is to release its cowns or is gone
pub record EndsBehaviour (d : Parts) (who row : ℕ) (has_cowns : Bool) (e : Parts) : Type 0 where
  pub finishes : Finishes d.program (state d) who row (state e)
  pub same : e.program ≡ d.program
  pub gone : has_cowns ≡ false → at (state e) who ≡ None
  pub left : has_cowns ≡ true → at (state e) who ≢ None

-- the next request of the behaviour of a number and a row is released; or that is blocked, and nothing changed
abbrev pub ReleasesNext : Parts → ℕ → ℕ → Left → Parts → Type 0
ReleasesNext d who row (left.Moved step) e = Leaves (state d) who row step (state e) × (at (state e) who ≢ None) × (e.program ≡ d.program)
ReleasesNext d who row (left.Gone step) e = Leaves (state d) who row step (state e) × (at (state e) who ≡ None) × (e.program ≡ d.program)
ReleasesNext d who row left.Blocked e = Stays d e × IsBlockedLeaving (state d) who row
ReleasesNext d who row left.Unknown e = ⊥

-- the slot of a leaving behaviour, and the request that it releases next
abbrev pub IsFoundLeaving : Parts → ℕ → ℕ → ℕ → Type 0
IsFoundLeaving d row slot request = (l : Live) × IsAtStage d slot l (Recorded row (LeavingPhase request))

-- ---- who can step

-- a behaviour can't step: neither its enqueue, nor its body, nor its release
pub record StandsStill (d : Parts) (l : Live) : Type 0 where
  pub enqueue : enqueues_at l.stage ≡ true → CanAdvance d.program (state d) l.number l.parent → ⊥
  pub body : (row : ℕ) → l.stage ≡ Recorded row RunningPhase → HasNoEnqueue (state d) row → ⊥
  pub release : (row request : ℕ) → l.stage ≡ Recorded row (LeavingPhase request) → CanLeave (state d) row → ⊥

-- what is named of a behaviour can step, or it can't
abbrev pub MovesOrNot : Parts → Live → Option Mover → Type 0
MovesOrNot d l None = StandsStill d l
MovesOrNot d l (Some mover) = CanMove (underway d) mover

-- the same of whatever is at a slot
abbrev pub MovesAtOrNot : Parts → ℕ → Option Mover → Type 0
MovesAtOrNot d slot None = (l : Live) → live_at d.live slot ≡ Some l → StandsStill d l
MovesAtOrNot d slot (Some mover) = CanMove (underway d) mover

-- of those that work one who can step is named; or nobody works
abbrev pub NamesWorker : Parts → Option Mover → Type 0
NamesWorker d None = NobodyWorks (state d)
NamesWorker d (Some mover) = CanMove (underway d) mover
