-- What the calls of the dispatcher answer and do.
use Rattle.std.specs.Prelude.{◌≡◌, ◌≢◌, ℕ, ◌+◌, List, [], ℤ, Option, Some, None, Result, Ok, Err, slice_get}
use Rattle.boc_program.specs.declared.limits.TheConstants.{MOST_ROWS}
use Rattle.boc_program.specs.declared.body.Body.{Body}
use Rattle.boc_program.specs.declared.short.Input.{Input}
use Rattle.boc_runs.specs.declared.stage.Phase.TheVariants.{Leaving as LeavingPhase}
use Rattle.boc_runs.specs.declared.stage.Stage.TheVariants.{Recorded}
use Rattle.boc_runs.specs.declared.step.Step.TheVariants.{Own}
use Rattle.boc_runs.specs.Lives.{Running}
use Rattle.boc_program.specs.Meaning.{Wish}
use Rattle.boc_runs.specs.Run.{Member, next_wish, state_of}
use Rattle.boc_runs.specs.Records.{Recorded as RecordOf, IsRecordOf}
use Rattle.boc_runs.specs.machine.Steps.{State, at, members, opened, recorded, unrecorded, IsQuiet, HasNoEnqueue, MayOpen, Opens, Advances, Starts, Owns}
use Rattle.boc_runs.specs.machine.Steps.{Finishes, Leaves, IsBlockedAsking, IsBlockedLeaving}
use Rattle.boc_runs.specs.machine.Turns.{IsEnqueueOf}
use Rattle.boc_runs.specs.machine.Movers.{CanAdvance, CanGoOn, CanLeave, CanStart}
use Rattle.boc_eval.specs.Frames.{UnderWay as Framed, Ran}
use Rattle.boc_dispatch.specs.declared.calls.Advanced.{Advanced}
use Rattle.boc_dispatch.specs.declared.calls.Advanced.TheVariants as advanced
use Rattle.boc_dispatch.specs.declared.calls.Child.{Child}
use Rattle.boc_dispatch.specs.declared.calls.FinishFault.{FinishFault}
use Rattle.boc_dispatch.specs.declared.calls.FinishFault.TheVariants as finish_faults
use Rattle.boc_dispatch.specs.declared.calls.Leaving.{Leaving}
use Rattle.boc_dispatch.specs.declared.calls.Left.{Left}
use Rattle.boc_dispatch.specs.declared.calls.Left.TheVariants as left
use Rattle.boc_dispatch.specs.declared.calls.Mover.{Mover}
use Rattle.boc_dispatch.specs.declared.calls.Mover.TheVariants as movers
use Rattle.boc_dispatch.specs.declared.calls.OpenFault.{OpenFault}
use Rattle.boc_dispatch.specs.declared.calls.OpenFault.TheVariants as open_faults
use Rattle.boc_dispatch.specs.declared.calls.Started.{Started}
use Rattle.boc_dispatch.specs.declared.calls.Started.TheVariants as started
use Rattle.boc_dispatch.specs.Underway.{Underway}

-- another state of the same program
abbrev pub in_state : Underway → State → Underway
in_state u t = record u { state = t }

-- a running row that was handed out with this body, these arguments and inputs
pub record IsHandedOut (u : Underway) (row : ℕ) (body : Body) (args : List ℤ) (inputs : List Input) : Type 0 where
  pub member : Member
  pub is : slice_get (members u.program u.state) row ≡ Some member
  pub runs : member.life ≡ Running
  pub body_is : slice_get u.program.bodies member.behaviour.kind ≡ Some body
  pub args_are : args ≡ member.behaviour.args
  pub inputs_are : inputs ≡ member.inputs

-- ---- start

-- the first of the ready list started, and this is what its body is to be run on; or nothing is ready
abbrev pub Begins : Underway → Started → Underway → Type 0
Begins u (started.Job job) v =
    (who : ℕ) × (t : State) × Starts u.state who job.row t × (v ≡ in_state u t) × IsHandedOut v job.row job.body job.args.items job.inputs.items
Begins u started.NoneReady v = (v ≡ u) × (u.state.ready ≡ []) × (IsQuiet u.state → ⊥)
Begins u started.Quiet v = (v ≡ u) × IsQuiet u.state

-- the first of the ready list started, and this is its row, and its body at its start; or nothing is ready
abbrev pub BeginsFrame : Underway → Option (ℕ × Framed) → Underway → Type 0
BeginsFrame u None v = (v ≡ u) × (u.state.ready ≡ [])
BeginsFrame u (Some (row, f)) v =
    (who : ℕ) × (t : State) × Starts u.state who row t × (v ≡ in_state u t) × IsHandedOut v row f.body f.args f.inputs × (f.made ≡ 0)

-- ---- open

-- the last of so many wishes of a row is the next to be spawned, and none of them is being enqueued
pub record IsNextWish (u : Underway) (row wishes : ℕ) : Type 0 where
  pub none_open : HasNoEnqueue u.state row
  pub member : Member
  pub is : slice_get (members u.program u.state) row ≡ Some member
  pub next : wishes ≡ member.spawned + 1

-- the frame is that of a running row, and its last wish is the next to be spawned
pub record MayAsk (u : Underway) (f : Framed) (row : ℕ) : Type 0 where
  pub handed : IsHandedOut u row f.body f.args f.inputs
  pub next : IsNextWish u row f.made

-- a row's next wish is due, and there is no space for it
pub record HasNoRoom (u : Underway) (row : Option ℕ) : Type 0 where
  pub served : ℕ
  pub serves : row ≡ Some served
  pub runs : state_of (members u.program u.state) served ≡ Some Running
  pub none_open : HasNoEnqueue u.state served
  pub wish : Wish
  pub next : next_wish u.program (slice_get (members u.program u.state) served) ≡ Some wish
  pub full : recorded u.program u.state + unrecorded u.state ≡ MOST_ROWS

-- the frame's last wish is the next of the row, and is opened, under this token; or nothing changed, for the first of these reasons
abbrev pub OpensWish : Underway → Framed → ℕ → Result Child OpenFault → Underway → Type 0
OpensWish u f row (Ok child) v =
    MayAsk u f row × (child.number ≡ opened u.state) × (child.row ≡ row) × (t : State) × Opens u.program u.state row t × (v ≡ in_state u t)
OpensWish u f row (Err open_faults.Stranger) v = (v ≡ u) × (IsHandedOut u row f.body f.args f.inputs → ⊥)
OpensWish u f row (Err open_faults.OutOfTurn) v = (v ≡ u) × IsHandedOut u row f.body f.args f.inputs × (IsNextWish u row f.made → ⊥)
OpensWish u f row (Err open_faults.Behaviours) v = (v ≡ u) × MayAsk u f row × HasNoRoom u (Some row)
OpensWish u f row (Err open_faults.Memory) v = (v ≡ u) × MayAsk u f row × ((wish : Wish) × MayOpen u.program u.state row wish)

-- ---- advance

-- the next step of the open enqueue with this token is made; or nothing changed
abbrev pub AdvancesChild : Underway → Child → Advanced → Underway → Type 0
AdvancesChild u child (advanced.Moved step) v =
    IsEnqueueOf u.state child.number child.row × (step ≢ Own) × (t : State) × Advances u.program u.state child.number step t × (v ≡ in_state u t)
AdvancesChild u child advanced.Enqueued v = IsEnqueueOf u.state child.number child.row × (t : State) × Owns u.state child.number t × (v ≡ in_state u t)
AdvancesChild u child advanced.Blocked v = (v ≡ u) × IsEnqueueOf u.state child.number child.row × IsBlockedAsking u.state child.number
AdvancesChild u child advanced.Unknown v = (v ≡ u) × (IsEnqueueOf u.state child.number child.row → ⊥)

-- ---- finish

-- all of so many wishes of a row were spawned, and none of them is being enqueued
pub record HasSpawnedAll (u : Underway) (row wishes : ℕ) : Type 0 where
  pub none_open : HasNoEnqueue u.state row
  pub member : Member
  pub is : slice_get (members u.program u.state) row ≡ Some member
  pub all : wishes ≡ member.spawned

-- the row has ended, and has cowns to release exactly where a token says so
pub record EndsRow (u : Underway) (row : ℕ) (leaving : Option Leaving) (v : Underway) : Type 0 where
  pub who : ℕ
  pub state : State
  pub finishes : Finishes u.program u.state who row state
  pub same : v ≡ in_state u state
  pub gone : leaving ≡ None → at state who ≡ None
  pub left : (token : Leaving) → leaving ≡ Some token → (token.row ≡ row) × (at state who ≢ None)

-- the row ends with this outcome; or nothing changed, the outcome comes back, and this is the first reason
abbrev pub FinishesRow : Underway → ℕ → Ran → Result (Option Leaving) (Ran × FinishFault) → Underway → Type 0
FinishesRow u row o (Ok leaving) v = IsHandedOut u row o.body o.args o.inputs × EndsRow u row leaving v
FinishesRow u row o (Err (same, finish_faults.Stranger)) v = (v ≡ u) × (same ≡ o) × (IsHandedOut u row o.body o.args o.inputs → ⊥)
FinishesRow u row o (Err (same, finish_faults.Busy)) v =
    (v ≡ u) × (same ≡ o) × IsHandedOut u row o.body o.args o.inputs × (HasSpawnedAll u row o.wishes → ⊥)

-- an answer, with the outcome that comes back beside a fault
abbrev pub with_outcome : Ran → Result (Option Leaving) FinishFault → Result (Option Leaving) (Ran × FinishFault)
with_outcome o (Ok leaving) = Ok leaving
with_outcome o (Err fault) = Err (o, fault)

-- ---- leave

-- the row's behaviour has ended, and releases its cowns
pub record IsLeaving (s : State) (row : ℕ) : Type 0 where
  pub who : ℕ
  pub request : ℕ
  pub parent : ℕ
  pub offset : ℕ
  pub cowns : List ℕ
  pub is : at s who ≡ Some (record { parent = parent; offset = offset; cowns = cowns; stage = Recorded row (LeavingPhase request) })

-- the next cown of the row's behaviour is released; or nothing changed
abbrev pub LeavesCown : Underway → Leaving → Left → Underway → Type 0
LeavesCown u leaving (left.Moved step) v =
    (who : ℕ) × (t : State) × Leaves u.state who leaving.row step t × (at t who ≢ None) × (v ≡ in_state u t)
LeavesCown u leaving (left.Gone step) v =
    (who : ℕ) × (t : State) × Leaves u.state who leaving.row step t × (at t who ≡ None) × (v ≡ in_state u t)
LeavesCown u leaving left.Blocked v = (v ≡ u) × ((who : ℕ) × IsBlockedLeaving u.state who leaving.row)
LeavesCown u leaving left.Unknown v = (v ≡ u) × (IsLeaving u.state leaving.row → ⊥)

-- ---- movable

-- the one that is named can step
abbrev pub CanMove : Underway → Mover → Type 0
CanMove u (movers.Ready row) = CanStart u.state row
CanMove u (movers.Running row) = CanGoOn u.program u.state row
CanMove u (movers.Enqueuing child) = CanAdvance u.program u.state child.number child.row
CanMove u (movers.Leaving leaving) = CanLeave u.state leaving.row

-- somebody is named who can step; or nobody, exactly where it is quiet
abbrev pub NamesMover : Underway → Option Mover → Type 0
NamesMover u None = IsQuiet u.state
NamesMover u (Some mover) = CanMove u mover × (IsQuiet u.state → ⊥)

-- ---- into_record

-- the record of the whole run where it is quiet, else the dispatcher as it was
abbrev pub EndsAsRecord : Underway → Result RecordOf Underway → Type 0
EndsAsRecord u (Ok r) = IsQuiet u.state × (r.events ≡ u.state.log) × IsRecordOf u.program r
EndsAsRecord u (Err same) = (same ≡ u) × (IsQuiet u.state → ⊥)
