-- A run's log only grows.
use Rattle.std.proofs.Common.{◌≡◌, ◌∙◌, ℕ, suc, Bool, true, false, List, [], ◌∷◌, ◌++◌, length, Option, Some, None, append-nil, refl, sym, ap}
use Rattle.std.specs.Prelude.{if◌then◌else◌, nat_lt}
use Rattle.boc_program.specs.declared.program.Program.{Program}
use Rattle.boc_runs.specs.declared.event.Event.{Event}
use Rattle.boc_runs.specs.declared.event.Event.TheVariants as events
use Rattle.boc_runs.specs.declared.stage.Phase.TheVariants as phases
use Rattle.boc_runs.specs.declared.stage.Stage.{Stage}
use Rattle.boc_runs.specs.declared.stage.Stage.TheVariants.{Asking, Recorded}
use Rattle.boc_runs.specs.declared.step.Step.{Step}
use Rattle.boc_runs.specs.declared.step.Step.TheVariants as steps
use Rattle.boc_runs.specs.machine.Stages.{OpenBehaviour}
use Rattle.boc_runs.specs.machine.Queues.{all_granted}
use Rattle.boc_runs.specs.machine.Steps.{State, Makes, at, child, leaving_on, made_ready, noted, opened, queue, recorded, stepped}
use Rattle.boc_runs.specs.machine.Steps.{with_behaviour, with_new, with_queue, with_spawn, with_stage, woken, woken_at, woken_if}

-- the log of the one state is that of the other, and what happened since
abbrev pub Grows : State → State → Type 0
Grows s t = (since : List Event) × (t.log ≡ s.log ++ since)

-- nothing has happened since
as_long : (s t : State) → t.log ≡ s.log → Grows s t
as_long s t same = ([], same ∙ sym (append-nil s.log))

-- a step more is made
with_step : (s u t : State) → Grows s u → t ≡ stepped u → Grows s t
with_step s u t grows is = (grows.0, ap (λ (x : State). x.log) is ∙ grows.1)

-- ---- what steps are made of

asks_on : (p : Program) (s : State) (who : ℕ) (b : OpenBehaviour) (request : ℕ) (yes : Bool)
    → Grows s (if yes then with_stage s who b (Asking request false) else with_spawn p s who b)
asks_on p s who b request true = as_long s (with_stage s who b (Asking request false)) refl
asks_on p s who b request false = (events.Spawn (recorded p s) b.parent b.offset (record { items = b.cowns }) ∷ [], refl)

owns : (s : State) (who : ℕ) (b : OpenBehaviour) (row : ℕ) (yes : Bool)
    → (if yes then made_ready s who b row else with_stage s who b (Recorded row phases.Waiting)).log ≡ s.log
owns s who b row true = refl
owns s who b row false = refl

leaves_on : (s : State) (who : ℕ) (b : OpenBehaviour) (row request : ℕ) (yes : Bool)
    → (if yes then with_stage s who b (Recorded row (phases.Leaving request)) else with_behaviour s who None).log ≡ s.log
leaves_on s who b row request true = refl
leaves_on s who b row request false = refl

leaving_log : (s : State) (who : ℕ) (b : OpenBehaviour) (row request : ℕ) → (leaving_on s who b row request).log ≡ s.log
leaving_log s who b row request = leaves_on s who b row request (nat_lt request (length b.cowns))

wakes : (s : State) (who : ℕ) (b : OpenBehaviour) (row : ℕ) (yes : Bool) → (if yes then made_ready s who b row else s).log ≡ s.log
wakes s who b row true = refl
wakes s who b row false = refl

woken_log_at : (s : State) (who : ℕ) (b : OpenBehaviour) (stage : Stage) → (woken_at s who b stage).log ≡ s.log
woken_log_at s who b (Recorded row phases.Waiting) = wakes s who b row (all_granted (at s) (queue s) who)
woken_log_at s who b (Recorded row _) = refl
woken_log_at s who b (Asking request exchanged) = refl

woken_log_if : (s : State) (who : ℕ) (o : Option OpenBehaviour) → (woken_if s who o).log ≡ s.log
woken_log_if s who None = refl
woken_log_if s who (Some b) = woken_log_at s who b b.stage

woken_log : (s : State) (who : ℕ) → (woken s who).log ≡ s.log
woken_log s who = woken_log_if s who (at s who)

-- ---- the nine steps

pub log_grows : (p : Program) (s t : State) (step : Step) → Makes p s step t → Grows s t
log_grows p s t steps.Open (row, opens) =
    let new : OpenBehaviour = child row opens.wish in
    with_step s _ t (asks_on p (with_new s new) (opened s) new 0 (nat_lt 0 (length new.cowns))) opens.gives
log_grows p s t (steps.Swap request) (who, swaps) = as_long s t (ap (λ (x : State). x.log) swaps.gives)
log_grows p s t (steps.Settle request) (who, settles) =
    with_step s _ t (asks_on p s who settles.this (suc request) (nat_lt (suc request) (length settles.this.cowns))) settles.gives
log_grows p s t (steps.Flag request) (who, flags) = as_long s t (ap (λ (x : State). x.log) flags.gives)
log_grows p s t steps.Own (who, own) =
    as_long s t (ap (λ (x : State). x.log) own.gives ∙ owns s who own.this own.row (all_granted (at s) (queue s) who))
log_grows p s t steps.Start (who, row, starts) = (events.Start row ∷ [], ap (λ (x : State). x.log) starts.gives)
log_grows p s t steps.Finish (who, row, ends) =
    let end : Event = events.End row ends.ticks ends.status (record { items = ends.written }) in
    (end ∷ [], ap (λ (x : State). x.log) ends.gives ∙ leaving_log (noted s end) who ends.this row 0)
log_grows p s t (steps.Unhook request) (who, row, unhooks) =
    as_long s t (ap (λ (x : State). x.log) unhooks.gives ∙ leaving_log (with_queue s unhooks.c []) who unhooks.this row (suc request))
log_grows p s t (steps.Pass request) (who, row, passes) =
    let left : State = with_queue s passes.c (passes.next ∷ passes.rest) in
    as_long s t (ap (λ (x : State). x.log) passes.gives ∙ woken_log (leaving_on left who passes.this row (suc request)) passes.next
    ∙ leaving_log left who passes.this row (suc request))
