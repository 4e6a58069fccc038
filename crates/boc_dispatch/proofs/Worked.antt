-- A worker's turn, by what the call answered that was due.
use Rattle.std.proofs.Common.{◌≡◌, ◌≢◌, ℕ, ◌<◌, List, [], ◌∷◌, arith, refl, sym, ◌∙◌, ap, subst}
use Rattle.std.specs.Prelude.{Option, Some, None, Result, Ok, Err}
use Rattle.std.specs.declared.alloc.AllocError.{AllocError}
use Rattle.boc_runs.specs.machine.Queues.{times}
use Rattle.boc_runs.specs.machine.Sound.{IsSound}
use Rattle.boc_machine_laws.proofs.Lists.{times-here}
use Rattle.boc_program.specs.declared.program.Program.{Program}
use Rattle.boc_runs.specs.declared.step.Step.{Step}
use Rattle.boc_runs.specs.declared.step.Step.TheVariants as steps
use Rattle.boc_runs.specs.machine.Stages.{OpenBehaviour, ready_row}
use Rattle.boc_runs.specs.machine.Steps.{State, at, Makes, IsQuiet}
use Rattle.boc_runs.specs.machine.Turns.{TakesTurn, Begins as BeginsTurn, Advanced as AdvancedTurn, WaitsToSettle, Opened, Finished, Left as LeftTurn}
use Rattle.boc_runs.specs.machine.Turns.{WaitsToLeave, unless_gone}
use Rattle.boc_eval.specs.Frames.{UnderWay as Framed, Ran}
use Rattle.boc_machine_laws.proofs.OneTurn.{advance_makes, leave_makes}
use Rattle.boc_dispatch.specs.declared.calls.Advanced.TheVariants as advanced
use Rattle.boc_dispatch.specs.declared.calls.Child.{Child}
use Rattle.boc_dispatch.specs.declared.calls.Job.{Job}
use Rattle.boc_dispatch.specs.declared.calls.Leaving.{Leaving}
use Rattle.boc_dispatch.specs.declared.calls.Left.TheVariants as left
use Rattle.boc_dispatch.specs.declared.calls.Started.TheVariants as started
use Rattle.boc_dispatch.specs.declared.worker.Hand.{Hand}
use Rattle.boc_dispatch.specs.declared.worker.Due.TheVariants as dues
use Rattle.boc_dispatch.specs.declared.worker.Hand.TheVariants as hands
use Rattle.boc_dispatch.specs.declared.worker.Turn.TheVariants as turns
use Rattle.boc_dispatch.specs.Underway.{Underway}
use Rattle.boc_dispatch.specs.Calls.{in_state, Begins, BeginsFrame, OpensWish, AdvancesChild, FinishesRow, LeavesCown}
use Rattle.boc_dispatch.specs.Working.{row_in, MakesTurn, Works, HasThought, IsToThink}

-- a step to another state of the same program
made : (u v : Underway) (h k : Hand) (step : Step) (t : State) → v ≡ in_state u t → TakesTurn u.program u.state (row_in h) t (row_in k)
    → Makes u.program u.state step t → MakesTurn u h step v k
made u v h k step t is takes makes =
    subst (λ (x : Underway). MakesTurn u h step x k) (sym is) (record { takes = takes; makes = makes; same = refl })

pub begins : (u v : Underway) (job : Job) → Begins u (started.Job job) v → Works u hands.Nothing (turns.Moved steps.Start) v (hands.Started job)
begins u v job b = made u v hands.Nothing (hands.Started job) steps.Start b.1 b.3 (BeginsTurn b.0 job.row b.1 b.2) (b.0, job.row, b.2)

pub begins_frame : (u v : Underway) (row : ℕ) (f : Framed) → BeginsFrame u (Some (row, f)) v
    → Works u hands.Nothing (turns.Moved steps.Start) v (hands.Framed row f dues.Going)
begins_frame u v row f b =
    made u v hands.Nothing (hands.Framed row f dues.Going) steps.Start b.1 b.3 (BeginsTurn b.0 row b.1 b.2) (b.0, row, b.2)

pub opens : (u v : Underway) (row : ℕ) (f : Framed) (child : Child) → OpensWish u f row (Ok child) v
    → Works u (hands.Framed row f dues.Wishing) (turns.Moved steps.Open) v (hands.Framed row f (dues.Enqueuing child))
opens u v row f child o =
    made u v (hands.Framed row f dues.Wishing) (hands.Framed row f (dues.Enqueuing child)) steps.Open o.3 o.5
    (subst (λ (r : ℕ). TakesTurn u.program u.state (Some row) o.3 (Some r)) (sym o.2) (Opened row o.3 o.4)) (row, o.4)

pub advances : (u v : Underway) (row : ℕ) (f : Framed) (child : Child) (step : Step) → AdvancesChild u child (advanced.Moved step) v
    → Works u (hands.Framed row f (dues.Enqueuing child)) (turns.Moved step) v (hands.Framed row f (dues.Enqueuing child))
advances u v row f child step a =
    made u v (hands.Framed row f (dues.Enqueuing child)) (hands.Framed row f (dues.Enqueuing child)) step a.2 a.4
    (AdvancedTurn child.row child.number step a.2 a.0 a.3) (advance_makes u.program u.state child.number step a.2 a.3)

pub waits_to_settle : (u v : Underway) (row : ℕ) (f : Framed) (child : Child) → AdvancesChild u child advanced.Blocked v
    → Works u (hands.Framed row f (dues.Enqueuing child)) turns.Blocked v (hands.Framed row f (dues.Enqueuing child))
waits_to_settle u v row f child a =
    (a.0, refl, record { row = child.row; serves = refl; takes = WaitsToSettle child.row child.number a.1 a.2 })

pub owns : (u v : Underway) (row : ℕ) (f : Framed) (child : Child) → AdvancesChild u child advanced.Enqueued v
    → Works u (hands.Framed row f (dues.Enqueuing child)) (turns.Moved steps.Own) v (hands.Framed child.row f dues.Going)
owns u v row f child a =
    made u v (hands.Framed row f (dues.Enqueuing child)) (hands.Framed child.row f dues.Going) steps.Own a.1 a.3
    (AdvancedTurn child.row child.number steps.Own a.1 a.0 a.2) (child.number, a.2)

-- the row of who isn't gone is served on
still_served : (row : ℕ) (o : Option OpenBehaviour) → o ≢ None → unless_gone row o ≡ Some row
still_served row None there = absurd (there refl)
still_served row (Some b) there = refl

pub finishes : (u v : Underway) (row : ℕ) (o : Ran) (leaving : Leaving) → FinishesRow u row o (Ok (Some leaving)) v
    → Works u (hands.Done row o) (turns.Moved steps.Finish) v (hands.Leaving leaving)
finishes u v row o leaving f =
    let e = f.1 in
    let stays = e.left leaving refl in
    made u v (hands.Done row o) (hands.Leaving leaving) steps.Finish e.state e.same
    (subst (λ (r : Option ℕ). TakesTurn u.program u.state (Some row) e.state r) (still_served row (at e.state e.who) stays.1 ∙ ap (λ z. Some z) (sym stays.0))
    (Finished row e.who e.state e.finishes))
    (e.who, row, e.finishes)

pub is_gone : (u v : Underway) (row : ℕ) (o : Ran) → FinishesRow u row o (Ok None) v → Works u (hands.Done row o) (turns.Moved steps.Finish) v hands.Nothing
is_gone u v row o f =
    let e = f.1 in
    made u v (hands.Done row o) hands.Nothing steps.Finish e.state e.same
    (subst (λ (r : Option ℕ). TakesTurn u.program u.state (Some row) e.state r) (ap (unless_gone row) (e.gone refl)) (Finished row e.who e.state e.finishes))
    (e.who, row, e.finishes)

pub leaves_on : (u v : Underway) (l : Leaving) (step : Step) → LeavesCown u l (left.Moved step) v
    → Works u (hands.Leaving l) (turns.Moved step) v (hands.Leaving l)
leaves_on u v l step a =
    made u v (hands.Leaving l) (hands.Leaving l) step a.1 a.4
    (subst (λ (r : Option ℕ). TakesTurn u.program u.state (Some l.row) a.1 r) (still_served l.row (at a.1 a.0) a.3) (LeftTurn l.row a.0 step a.1 a.2))
    (leave_makes u.program u.state a.0 l.row step a.1 a.2)

pub leaves_last : (u v : Underway) (l : Leaving) (step : Step) → LeavesCown u l (left.Gone step) v
    → Works u (hands.Leaving l) (turns.Moved step) v hands.Nothing
leaves_last u v l step a =
    made u v (hands.Leaving l) hands.Nothing step a.1 a.4
    (subst (λ (r : Option ℕ). TakesTurn u.program u.state (Some l.row) a.1 r) (ap (unless_gone l.row) a.3) (LeftTurn l.row a.0 step a.1 a.2))
    (leave_makes u.program u.state a.0 l.row step a.1 a.2)

pub waits_to_leave : (u v : Underway) (l : Leaving) → LeavesCown u l left.Blocked v → Works u (hands.Leaving l) turns.Blocked v (hands.Leaving l)
waits_to_leave u v l a = (a.0, refl, record { row = l.row; serves = refl; takes = WaitsToLeave l.row a.1.0 a.1.1 })

-- nothing is ready where all is quiet
none_ready : (p : Program) (s : State) → IsSound p s → IsQuiet s → (ready : List ℕ) → s.ready ≡ ready → ready ≡ []
none_ready p s sound quiet [] is = refl
none_ready p s sound quiet (row ∷ rows) is =
    let one = times-here row rows in
    let stands : 0 < times row s.ready = subst (λ (xs : List ℕ). 0 < times row xs) (sym is) (omega arith) in
    let who = sound.ready_only row stands in
    absurd (let e : None ≡ Some row = sym (ap ready_row (quiet who.0)) ∙ who.1 in cc)

pub is_quiet : (u v : Underway) → Begins u started.Quiet v → IsSound v.program v.state → Works u hands.Nothing turns.Quiet v hands.Nothing
is_quiet u v b sound =
    (b.0, refl, refl, none_ready u.program u.state (subst (λ (x : Underway). IsSound x.program x.state) b.0 sound) b.1 u.state.ready refl, b.1)

-- a step of the worker that is chosen is one turn
pub thinks_row : (h k : Hand) (r : Result (Unit {0}) AllocError) → HasThought h r k → row_in k ≡ row_in h
thinks_row (hands.Started job) (hands.Framed row f dues.Wishing) (Ok x) t = ap (λ z. Some z) t.0
thinks_row (hands.Started job) (hands.Done row o) (Ok x) t = ap (λ z. Some z) t.0
thinks_row (hands.Started job) hands.Nothing (Ok x) t = absurd t
thinks_row (hands.Started job) (hands.Started other) (Ok x) t = absurd t
thinks_row (hands.Started job) (hands.Framed row f dues.Going) (Ok x) t = absurd t
thinks_row (hands.Started job) (hands.Framed row f (dues.Enqueuing child)) (Ok x) t = absurd t
thinks_row (hands.Started job) (hands.Leaving l) (Ok x) t = absurd t
thinks_row (hands.Framed own f dues.Going) (hands.Framed row g dues.Wishing) (Ok x) t = ap (λ z. Some z) t.0
thinks_row (hands.Framed own f dues.Going) (hands.Done row o) (Ok x) t = ap (λ z. Some z) t.0
thinks_row (hands.Framed own f dues.Going) hands.Nothing (Ok x) t = absurd t
thinks_row (hands.Framed own f dues.Going) (hands.Started other) (Ok x) t = absurd t
thinks_row (hands.Framed own f dues.Going) (hands.Framed row g dues.Going) (Ok x) t = absurd t
thinks_row (hands.Framed own f dues.Going) (hands.Framed row g (dues.Enqueuing child)) (Ok x) t = absurd t
thinks_row (hands.Framed own f dues.Going) (hands.Leaving l) (Ok x) t = absurd t
thinks_row hands.Nothing k (Ok x) t = ap row_in t
thinks_row (hands.Framed row f dues.Wishing) k (Ok x) t = ap row_in t
thinks_row (hands.Framed row f (dues.Enqueuing child)) k (Ok x) t = ap row_in t
thinks_row (hands.Done row o) k (Ok x) t = ap row_in t
thinks_row (hands.Leaving l) k (Ok x) t = ap row_in t
thinks_row hands.Nothing k (Err x) t = absurd t
thinks_row (hands.Started job) k (Err x) t = ap row_in t
thinks_row (hands.Framed row f dues.Going) k (Err x) t = absurd t
thinks_row (hands.Framed row f dues.Wishing) k (Err x) t = absurd t
thinks_row (hands.Framed row f (dues.Enqueuing child)) k (Err x) t = absurd t
thinks_row (hands.Done row o) k (Err x) t = absurd t
thinks_row (hands.Leaving l) k (Err x) t = absurd t

-- who has thought isn't to think
pub has_thought : (h k : Hand) (x : Unit {0}) → HasThought h (Ok x) k → IsToThink k → ⊥
has_thought (hands.Started job) (hands.Framed row f dues.Wishing) x t due = due
has_thought (hands.Started job) (hands.Done row o) x t due = due
has_thought (hands.Started job) hands.Nothing x t due = due
has_thought (hands.Started job) (hands.Started other) x t due = t
has_thought (hands.Started job) (hands.Framed row f dues.Going) x t due = t
has_thought (hands.Started job) (hands.Framed row f (dues.Enqueuing child)) x t due = due
has_thought (hands.Started job) (hands.Leaving l) x t due = due
has_thought (hands.Framed own f dues.Going) (hands.Framed row g dues.Wishing) x t due = due
has_thought (hands.Framed own f dues.Going) (hands.Done row o) x t due = due
has_thought (hands.Framed own f dues.Going) hands.Nothing x t due = due
has_thought (hands.Framed own f dues.Going) (hands.Started other) x t due = t
has_thought (hands.Framed own f dues.Going) (hands.Framed row g dues.Going) x t due = t
has_thought (hands.Framed own f dues.Going) (hands.Framed row g (dues.Enqueuing child)) x t due = due
has_thought (hands.Framed own f dues.Going) (hands.Leaving l) x t due = due
has_thought hands.Nothing k x t due = subst IsToThink t due
has_thought (hands.Framed row f dues.Wishing) k x t due = subst IsToThink t due
has_thought (hands.Framed row f (dues.Enqueuing child)) k x t due = subst IsToThink t due
has_thought (hands.Done row o) k x t due = subst IsToThink t due
has_thought (hands.Leaving l) k x t due = subst IsToThink t due
