-- In a drive each row that runs or leaves is served by a worker; and the turn of who can step is a step.
use Rattle.std.proofs.Common.{◌≡◌, ◌≢◌, ℕ, zero, suc, ◌+◌, ◌⊎◌, inl, inr, true, false, List, [], ◌∷◌, length, refl, sym, ◌∙◌, ap, subst}
use Rattle.std.specs.Prelude.{nat_lt, slice_get, Option, Some, None}
use Rattle.boc_program.specs.declared.program.Program.{Program}
use Rattle.boc_runs.specs.declared.event.Event.TheVariants as events
use Rattle.boc_runs.specs.declared.stage.Phase.TheVariants.{Flagging, Owning, Waiting, Ready, Running, Leaving}
use Rattle.boc_runs.specs.declared.stage.Stage.{Stage}
use Rattle.boc_runs.specs.declared.stage.Stage.TheVariants.{Asking, Recorded}
use Rattle.boc_runs.specs.declared.step.Step.{Step}
use Rattle.boc_runs.specs.declared.step.Step.TheVariants as steps
use Rattle.boc_runs.specs.Lives.{Pending}
use Rattle.boc_runs.specs.Run.{state_of}
use Rattle.boc_runs.specs.machine.Stages.{OpenBehaviour, row_of, row_at, life, life_at}
use Rattle.boc_runs.specs.machine.Queues.{all_granted}
use Rattle.boc_runs.specs.machine.Steps.{State, at, queue, members, opened, noted, with_behaviour, with_stage, with_queue, with_new, with_spawn, asking_on}
use Rattle.boc_runs.specs.machine.Steps.{leaving_on, flagging, made_ready, owned, woken, woken_if, woken_at, child, opening_state, Advances, Leaves, Opens}
use Rattle.boc_runs.specs.machine.Steps.{Finishes, Makes}
use Rattle.boc_runs.specs.machine.Turns.{TakesTurn, Driven, Turn, Turns, opening_driven, unless_gone, NoneReady, Begins, Advanced, WaitsToSettle, Opened}
use Rattle.boc_runs.specs.machine.Turns.{Finished, Left, WaitsToLeave}
use Rattle.boc_runs.specs.machine.Sound.{IsSound}
use Rattle.boc_runs.specs.machine.Movers.{CanAdvance, CanGoOn, CanLeave, CanStart}
use Rattle.boc_program.proofs.ChangedItems.{place_below, set_same, set_other}
use Rattle.boc_machine_laws.proofs.Lists.{same_or_not, read_pushed, read_front}
use Rattle.boc_machine_laws.proofs.Core.{put_here, put_others}
use Rattle.boc_machine_laws.proofs.Counting.{by_test}
use Rattle.boc_machine_laws.proofs.Every.{opening_sound}
use Rattle.boc_machine_laws.proofs.OneTurn.{turn_keeps, advance_makes, leave_makes, blocked_asking, blocked_stays, blocked_is_leaving, leaves_leaving}
use Rattle.boc_machine_laws.proofs.OneTurn.{leaving_row}
use Rattle.boc_machine_laws.proofs.OneTurn.{leaving_ended, enqueue_running, running_or_ended, who_leaves}

-- ---- who runs or leaves

-- the behaviour of a number runs or leaves, as this row
pub record IsActive (s : State) (who row : ℕ) : Type 0 where
  pub row_is : row_of (at s who) ≡ Some row
  pub lives : life (at s who) ≢ Pending

-- whoever does so in the second state did in the first
abbrev NoneNew : State → State → Type 0
NoneNew s t = (who row : ℕ) → IsActive t who row → IsActive s who row

none_new_here : (s : State) → NoneNew s s
none_new_here s who row a = a

elsewhere : (s : State) (who : ℕ) (b' : Option OpenBehaviour) (w row : ℕ) → w ≢ who → IsActive (with_behaviour s who b') w row → IsActive s w row
elsewhere s who b' w row n a =
    let same : at (with_behaviour s who b') w ≡ at s w = put_others s who b' w n in
    record { row_is = sym (ap row_of same) ∙ a.row_is; lives = λ e. a.lives (ap life same ∙ e) }

-- who doesn't run or leave yet may change to what doesn't either
pending_put : (s : State) (who : ℕ) (b b' : OpenBehaviour) → at s who ≡ Some b → life_at b'.stage ≡ Pending → NoneNew s (with_behaviour s who (Some b'))
pending_put s who b b' is pending w row a =
    elim (same_or_not w who) [
      | inl e ↦ absurd (a.lives (ap (λ v. life (at (with_behaviour s who (Some b')) v)) e ∙ ap life (put_here s who b (Some b') is) ∙ pending))
      | inr n ↦ elsewhere s who (Some b') w row n a
    ]

pending_new : (s : State) (b : OpenBehaviour) → life_at b.stage ≡ Pending → NoneNew s (with_new s b)
pending_new s b pending w row a =
    elim (same_or_not w (length s.behaviours)) [
      | inl e ↦ absurd (a.lives (ap (λ v. life (at (with_new s b) v)) e ∙ ap life (read_pushed s.behaviours (Some b)) ∙ pending))
      | inr n ↦
          let same : at (with_new s b) w ≡ at s w = read_front s.behaviours (Some b) w n in
          record { row_is = sym (ap row_of same) ∙ a.row_is; lives = λ e. a.lives (ap life same ∙ e) }
    ]

pub flagging_pending : (row request : ℕ) (cowns : List ℕ) → life_at (Recorded row (flagging cowns request)) ≡ Pending
flagging_pending row request cowns =
    by_test (λ phase. life_at (Recorded row phase) ≡ Pending) (nat_lt request (length cowns)) (Flagging request) Owning (λ h. refl) (λ h. refl)

none_asking : (p : Program) (s : State) (who : ℕ) (b : OpenBehaviour) (request : ℕ) → at s who ≡ Some b → NoneNew s (asking_on p s who b request)
none_asking p s who b request is =
    by_test (NoneNew s) (nat_lt request (length b.cowns)) (with_stage s who b (Asking request false)) (with_spawn p s who b)
    (λ h. pending_put s who b (record b { stage = Asking request false }) is refl)
    (λ h w row a. pending_put s who b (record b { stage = Recorded (length (members p s)) (flagging b.cowns 0) }) is
    (flagging_pending (length (members p s)) 0 b.cowns) w row (record { row_is = a.row_is; lives = a.lives }))

none_ready : (s : State) (who : ℕ) (b : OpenBehaviour) (row : ℕ) → at s who ≡ Some b → NoneNew s (made_ready s who b row)
none_ready s who b row is w r a =
    pending_put s who b (record b { stage = Recorded row Ready }) is refl w r (record { row_is = a.row_is; lives = a.lives })

none_owned : (s : State) (who : ℕ) (b : OpenBehaviour) (row : ℕ) → at s who ≡ Some b → NoneNew s (owned s who b row)
none_owned s who b row is =
    by_test (NoneNew s) (all_granted (at s) (queue s) who) (made_ready s who b row) (with_stage s who b (Recorded row Waiting))
    (λ h. none_ready s who b row is)
    (λ h. pending_put s who b (record b { stage = Recorded row Waiting }) is refl)

none_woken_at : (s : State) (who : ℕ) (b : OpenBehaviour) (stage : Stage) → at s who ≡ Some b → NoneNew s (woken_at s who b stage)
none_woken_at s who b (Recorded r Waiting) is =
    by_test (NoneNew s) (all_granted (at s) (queue s) who) (made_ready s who b r) s (λ h. none_ready s who b r is) (λ h. none_new_here s)
none_woken_at s who b _ is = none_new_here s

none_woken_if : (s : State) (who : ℕ) (o : Option OpenBehaviour) → at s who ≡ o → NoneNew s (woken_if s who o)
none_woken_if s who None is = none_new_here s
none_woken_if s who (Some b) is = none_woken_at s who b b.stage is

none_woken : (s : State) (who : ℕ) → NoneNew s (woken s who)
none_woken s who = none_woken_if s who (at s who) refl

-- ---- one of them goes on, or is gone

-- the behaviour of a number has this row, if it is there, and the others did so before
abbrev OneGoesOn : State → ℕ → ℕ → State → Type 0
OneGoesOn s who own t = (w row : ℕ) → IsActive t w row → ((w ≡ who) × (row ≡ own)) ⊎ ((w ≢ who) × IsActive s w row)

goes_on_put : (s : State) (who own : ℕ) (b b' : OpenBehaviour) → at s who ≡ Some b → row_at b'.stage ≡ Some own
    → OneGoesOn s who own (with_behaviour s who (Some b'))
goes_on_put s who own b b' is row_is w row a =
    elim (same_or_not w who) [
      | inl e ↦
          let f : Some row ≡ Some own = sym a.row_is ∙ ap (λ v. row_of (at (with_behaviour s who (Some b')) v)) e ∙ ap row_of (put_here s who b (Some b') is)
          ∙ row_is in
          let same : row ≡ own = cc in
          inl (e, same)
      | inr n ↦ inr (n, elsewhere s who (Some b') w row n a)
    ]

gone_put : (s : State) (who own : ℕ) (b : OpenBehaviour) → at s who ≡ Some b → OneGoesOn s who own (with_behaviour s who None)
gone_put s who own b is w row a =
    elim (same_or_not w who) [
      | inl e ↦
          let f : None ≡ Some row = sym (ap row_of (put_here s who b None is)) ∙ ap (λ v. row_of (at (with_behaviour s who None) v)) (sym e) ∙ a.row_is in
          absurd cc
      | inr n ↦ inr (n, elsewhere s who None w row n a)
    ]

leaves_on : (s : State) (who own : ℕ) (b : OpenBehaviour) (request : ℕ) → at s who ≡ Some b → OneGoesOn s who own (leaving_on s who b own request)
leaves_on s who own b request is =
    by_test (OneGoesOn s who own) (nat_lt request (length b.cowns)) (with_stage s who b (Recorded own (Leaving request))) (with_behaviour s who None)
    (λ h. goes_on_put s who own b (record b { stage = Recorded own (Leaving request) }) is refl)
    (λ h. gone_put s who own b is)

-- ---- a turn

-- who serves a row after a turn, and who did before
abbrev ServedOrOther : State → Option ℕ → Option ℕ → ℕ → ℕ → Type 0
ServedOrOther s before after w row = (after ≡ Some row) ⊎ ((before ≢ Some row) × IsActive s w row)

-- of a turn in which nobody starts or ends, by a worker that serves a row
on_row : (s : State) (own w row : ℕ) → IsActive s w row → ServedOrOther s (Some own) (Some own) w row
on_row s own w row a =
    elim (same_or_not own row) [
      | inl e ↦ inl (ap (λ z. Some z) e)
      | inr n ↦ inr (λ f. n (let g : Some own ≡ Some row = f in cc), a)
    ]

there_after : (row own : ℕ) (o : Option OpenBehaviour) → row_of o ≡ Some row → own ≡ row → unless_gone own o ≡ Some row
there_after row own None h e = absurd (let f : None ≡ Some row = h in cc)
there_after row own (Some b) h e = ap (λ z. Some z) e

module _ (p : Program) (s : State) (k : IsSound p s) where
  -- after the end or a release of a row
  off_row : (who own : ℕ) (t : State) (w row : ℕ) → row_of (at s who) ≡ Some own → OneGoesOn s who own t → IsActive t w row
      → ServedOrOther s (Some own) (unless_gone own (at t who)) w row
  off_row who own t w row own_is goes a =
      elim (goes w row a) [
        | inl e ↦ inl (there_after row own (at t who) (ap (λ v. row_of (at t v)) (sym e.0) ∙ a.row_is) (sym e.1))
        | inr n ↦ inr (
          λ f. (let g : Some own ≡ Some row = f in let same : own ≡ row = cc in
              n.0 (k.fits.one_row w who row n.1.row_is (own_is ∙ ap (λ z. Some z) same))),
          n.1,
        )
      ]

  none_advanced : (who : ℕ) (step : Step) (t : State) → Advances p s who step t → NoneNew s t
  none_advanced who (steps.Swap i) t m w row a =
      let b = subst (λ (z : State). IsActive z w row) m.gives a in
      pending_put s who m.this (record m.this { stage = Asking i true }) m.due.is refl w row (record { row_is = b.row_is; lives = b.lives })
  none_advanced who (steps.Settle i) t m w row a =
      let b = subst (λ (z : State). IsActive z w row) m.gives a in
      none_asking p s who m.this (suc i) m.due.is w row (record { row_is = b.row_is; lives = b.lives })
  none_advanced who (steps.Flag i) t m w row a =
      let b = subst (λ (z : State). IsActive z w row) m.gives a in
      pending_put s who m.this (record m.this { stage = Recorded m.row (flagging m.this.cowns (suc i)) }) m.due.is
      (flagging_pending m.row (suc i) m.this.cowns) w row (record { row_is = b.row_is; lives = b.lives })
  none_advanced who steps.Own t m w row a =
      let b = subst (λ (z : State). IsActive z w row) m.gives a in
      none_owned s who m.this m.row m.is w row (record { row_is = b.row_is; lives = b.lives })
  none_advanced who _ t m w row a = absurd m

  none_opened : (own : ℕ) (t : State) → Opens p s own t → NoneNew s t
  none_opened own t m w row a =
      let b = subst (λ (z : State). IsActive z w row) m.gives a in
      let c : OpenBehaviour = child own m.wish in
      pending_new s c refl w row
      (none_asking p (with_new s c) (opened s) c 0 (read_pushed s.behaviours (Some c)) w row (record { row_is = b.row_is; lives = b.lives }))

  finishes_goes : (who own : ℕ) (t : State) → Finishes p s who own t → OneGoesOn s who own t
  finishes_goes who own t m w row a =
      let b = subst (λ (z : State). IsActive z w row) m.gives a in
      let u = noted s (events.End own m.ticks m.status (record { items = m.written })) in
      elim (leaves_on u who own m.this 0 m.is w row (record { row_is = b.row_is; lives = b.lives })) [
        | inl e ↦ inl e
        | inr n ↦ inr (n.0, record { row_is = n.1.row_is; lives = n.1.lives })
      ]

  leaves_goes : (who own : ℕ) (step : Step) (t : State) → Leaves s who own step t → OneGoesOn s who own t
  leaves_goes who own (steps.Unhook i) t m w row a =
      let b = subst (λ (z : State). IsActive z w row) m.gives a in
      elim (leaves_on (with_queue s m.c []) who own m.this (suc i) m.due.is w row (record { row_is = b.row_is; lives = b.lives })) [
        | inl e ↦ inl e
        | inr n ↦ inr (n.0, record { row_is = n.1.row_is; lives = n.1.lives })
      ]
  leaves_goes who own (steps.Pass i) t m w row a =
      let b = subst (λ (z : State). IsActive z w row) m.gives a in
      let u = with_queue s m.c (m.next ∷ m.rest) in
      let v = leaving_on u who m.this own (suc i) in
      elim (leaves_on u who own m.this (suc i) m.due.is w row (none_woken v m.next w row (record { row_is = b.row_is; lives = b.lives }))) [
        | inl e ↦ inl e
        | inr n ↦ inr (n.0, record { row_is = n.1.row_is; lives = n.1.lives })
      ]
  leaves_goes who own _ t m w row a = absurd m

  turn_serves : (before : Option ℕ) (t : State) (after : Option ℕ) → TakesTurn p s before t after → (w row : ℕ) → IsActive t w row
      → ServedOrOther s before after w row
  turn_serves None t after (Begins who own u m) w row a =
      let b = subst (λ (z : State). IsActive z w row) m.gives a in
      elim (goes_on_put s who own m.this (record m.this { stage = Recorded own Running }) m.is refl w row (record { row_is = b.row_is; lives = b.lives })) [
        | inl e ↦ inl (ap (λ z. Some z) (sym e.1))
        | inr n ↦ inr (λ f. (let g : None ≡ Some row = f in cc), n.1)
      ]
  turn_serves None t after (NoneReady e) w row a = inr (λ f. (let g : None ≡ Some row = f in cc), a)
  turn_serves (Some own) t after (Advanced r who step u q m) w row a = on_row s own w row (none_advanced who step t m w row a)
  turn_serves (Some own) t after (WaitsToSettle r who q m) w row a = on_row s own w row a
  turn_serves (Some own) t after (Opened r u m) w row a = on_row s own w row (none_opened own t m w row a)
  turn_serves (Some own) t after (Finished r who u m) w row a =
      off_row who own t w row (ap row_of m.is ∙ ap row_at m.stage_is) (finishes_goes who own t m) a
  turn_serves (Some own) t after (Left r who step u m) w row a =
      off_row who own t w row (leaving_row p s k who own (leaves_leaving s who own step t m)) (leaves_goes who own step t m) a
  turn_serves (Some own) t after (WaitsToLeave r who m) w row a = on_row s own w row a

-- ---- a drive

-- each row that runs or leaves is served by a worker
abbrev pub AllServed : Driven → Type 0
AllServed d = (who row : ℕ) → IsActive d.state who row → (k : ℕ) × (slice_get d.serves k ≡ Some (Some row))

one_serves : (p : Program) (d e : Driven) (worker : ℕ) → IsSound p d.state → Turn p d worker e → AllServed d → AllServed e
one_serves p d e worker k turn all w row a =
    elim (turn_serves p d.state k turn.before e.state turn.after turn.takes w row a) [
      | inl f ↦ (
        worker,
        ap (λ xs. slice_get xs worker) turn.serves_are
            ∙ set_same d.serves worker turn.after (place_below d.serves worker turn.before turn.is) ∙ ap (λ o. Some o) f,
      )
      | inr o ↦
          let was = all w row o.1 in
          let other : was.0 ≢ worker = (λ f. o.0
          (let g : Some turn.before ≡ Some (Some row) = sym turn.is ∙ ap (slice_get d.serves) (sym f) ∙ was.1 in cc)) in
          (was.0, ap (λ xs. slice_get xs was.0) turn.serves_are ∙ set_other d.serves worker was.0 turn.after other ∙ was.1)
    ]

all_serve : (p : Program) (d e : Driven) (workers : List ℕ) → IsSound p d.state → Turns p d workers e → AllServed d → AllServed e
all_serve p d e [] k same all = subst AllServed (sym same) all
all_serve p d e (worker ∷ workers) k (next, one, more) all =
    all_serve p next e workers (turn_keeps p d next worker k one) more (one_serves p d next worker k one all)

none_active : (p : Program) (who row : ℕ) → IsActive (opening_state p) who row → ⊥
none_active p zero row a = a.lives refl
none_active p (suc who) row a = let f : None ≡ Some row = a.row_is in cc

-- in a drive each row that runs or leaves is served
pub each_is_served : (p : Program) (workers : ℕ) (choices : List ℕ) (e : Driven) → Turns p (opening_driven p workers) choices e → AllServed e
each_is_served p workers choices e turns =
    all_serve p (opening_driven p workers) e choices (opening_sound p) turns (λ who row a. absurd (none_active p who row a))

-- ---- the turn of who can step is a step

steps_asking : (p : Program) (s : State) (who : ℕ) (b : OpenBehaviour) (request : ℕ) → (asking_on p s who b request).steps ≡ s.steps
steps_asking p s who b request =
    by_test (λ (z : State). z.steps ≡ s.steps) (nat_lt request (length b.cowns)) (with_stage s who b (Asking request false)) (with_spawn p s who b) (λ h. refl)
    (λ h. refl)

steps_leaving : (s : State) (who : ℕ) (b : OpenBehaviour) (row request : ℕ) → (leaving_on s who b row request).steps ≡ s.steps
steps_leaving s who b row request =
    by_test (λ (z : State). z.steps ≡ s.steps) (nat_lt request (length b.cowns)) (with_stage s who b (Recorded row (Leaving request)))
    (with_behaviour s who None) (λ h. refl) (λ h. refl)

steps_owned : (s : State) (who : ℕ) (b : OpenBehaviour) (row : ℕ) → (owned s who b row).steps ≡ s.steps
steps_owned s who b row =
    by_test (λ (z : State). z.steps ≡ s.steps) (all_granted (at s) (queue s) who) (made_ready s who b row) (with_stage s who b (Recorded row Waiting))
    (λ h. refl) (λ h. refl)

steps_woken_at : (s : State) (who : ℕ) (b : OpenBehaviour) (stage : Stage) → (woken_at s who b stage).steps ≡ s.steps
steps_woken_at s who b (Recorded r Waiting) =
    by_test (λ (z : State). z.steps ≡ s.steps) (all_granted (at s) (queue s) who) (made_ready s who b r) s (λ h. refl) (λ h. refl)
steps_woken_at s who b _ = refl

steps_woken_if : (s : State) (who : ℕ) (o : Option OpenBehaviour) → (woken_if s who o).steps ≡ s.steps
steps_woken_if s who None = refl
steps_woken_if s who (Some b) = steps_woken_at s who b b.stage

pub one_step_more : (p : Program) (s : State) (step : Step) (t : State) → Makes p s step t → t.steps ≡ s.steps + 1
one_step_more p s steps.Open t (row, m) =
    let c : OpenBehaviour = child row m.wish in
    ap (λ (z : State). z.steps) m.gives ∙ ap (λ n. n + 1) (steps_asking p (with_new s c) (opened s) c 0)
one_step_more p s (steps.Swap i) t (who, m) = ap (λ (z : State). z.steps) m.gives
one_step_more p s (steps.Settle i) t (who, m) = ap (λ (z : State). z.steps) m.gives ∙ ap (λ n. n + 1) (steps_asking p s who m.this (suc i))
one_step_more p s (steps.Flag i) t (who, m) = ap (λ (z : State). z.steps) m.gives
one_step_more p s steps.Own t (who, m) = ap (λ (z : State). z.steps) m.gives ∙ ap (λ n. n + 1) (steps_owned s who m.this m.row)
one_step_more p s steps.Start t (who, row, m) = ap (λ (z : State). z.steps) m.gives
one_step_more p s steps.Finish t (who, row, m) =
    ap (λ (z : State). z.steps) m.gives
    ∙ ap (λ n. n + 1) (steps_leaving (noted s (events.End row m.ticks m.status (record { items = m.written }))) who m.this row 0)
one_step_more p s (steps.Unhook i) t (who, row, m) =
    ap (λ (z : State). z.steps) m.gives ∙ ap (λ n. n + 1) (steps_leaving (with_queue s m.c []) who m.this row (suc i))
one_step_more p s (steps.Pass i) t (who, row, m) =
    let u = leaving_on (with_queue s m.c (m.next ∷ m.rest)) who m.this row (suc i) in
    ap (λ (z : State). z.steps) m.gives
    ∙ ap (λ n. n + 1) (steps_woken_if u m.next (at u m.next) ∙ steps_leaving (with_queue s m.c (m.next ∷ m.rest)) who m.this row (suc i))

module _ (p : Program) (s : State) (k : IsSound p s) where
  pub start_steps : (t : State) (after : Option ℕ) (row : ℕ) → CanStart s row → TakesTurn p s None t after → t.steps ≡ s.steps + 1
  start_steps t after row can (Begins who own u m) = one_step_more p s steps.Start t (who, own, m)
  start_steps t after row can (NoneReady e) = absurd (let f : row ∷ can.starts.rest ≡ [] = sym can.starts.head ∙ e in cc)

  pub body_steps : (t : State) (after : Option ℕ) (row : ℕ) → CanGoOn p s row → TakesTurn p s (Some row) t after → t.steps ≡ s.steps + 1
  body_steps t after row can (Advanced r who step u q m) = one_step_more p s step t (advance_makes p s who step t m)
  body_steps t after row can (WaitsToSettle r who q m) = absurd (can.none_open who q.is_open q.parent)
  body_steps t after row can (Opened r u m) = one_step_more p s steps.Open t (row, m)
  body_steps t after row can (Finished r who u m) = one_step_more p s steps.Finish t (who, row, m)
  body_steps t after row can (Left r who step u m) = one_step_more p s step t (leave_makes p s who row step t m)
  body_steps t after row can (WaitsToLeave r who m) =
      absurd (running_or_ended (state_of (members p s) row) can.runs (leaving_ended p s k who row (blocked_is_leaving s who row m)))

  pub enqueue_steps : (t : State) (after : Option ℕ) (number row : ℕ) → CanAdvance p s number row → TakesTurn p s (Some row) t after → t.steps ≡ s.steps + 1
  enqueue_steps t after number row can (Advanced r who step u q m) = one_step_more p s step t (advance_makes p s who step t m)
  enqueue_steps t after number row can (WaitsToSettle r who q m) =
      let same : number ≡ who = k.fits.one_enqueue number who can.enqueue.is_open q.is_open (can.enqueue.parent ∙ sym q.parent) in
      absurd (blocked_asking p s who can.step can.after (subst (λ (z : ℕ). Advances p s z can.step can.after) same can.advances) m)
  enqueue_steps t after number row can (Opened r u m) = one_step_more p s steps.Open t (row, m)
  enqueue_steps t after number row can (Finished r who u m) = one_step_more p s steps.Finish t (who, row, m)
  enqueue_steps t after number row can (Left r who step u m) = one_step_more p s step t (leave_makes p s who row step t m)
  enqueue_steps t after number row can (WaitsToLeave r who m) =
      absurd (running_or_ended (state_of (members p s) row) (enqueue_running p s k number row can.enqueue)
      (leaving_ended p s k who row (blocked_is_leaving s who row m)))

  pub release_steps : (t : State) (after : Option ℕ) (row : ℕ) → CanLeave s row → TakesTurn p s (Some row) t after → t.steps ≡ s.steps + 1
  release_steps t after row can (Advanced r who step u q m) = one_step_more p s step t (advance_makes p s who step t m)
  release_steps t after row can (WaitsToSettle r who q m) =
      absurd (running_or_ended (state_of (members p s) row) (enqueue_running p s k who row q) (leaving_ended p s k can.who row (who_leaves p s k row can)))
  release_steps t after row can (Opened r u m) = one_step_more p s steps.Open t (row, m)
  release_steps t after row can (Finished r who u m) = one_step_more p s steps.Finish t (who, row, m)
  release_steps t after row can (Left r who step u m) = one_step_more p s step t (leave_makes p s who row step t m)
  release_steps t after row can (WaitsToLeave r who m) = absurd (blocked_stays p s k who row m can)
