-- Which workers can move, of what they serve.
use Rattle.std.proofs.Common.{◌≡◌, ◌↔◌, ℕ, ◌+◌, ◌⊎◌, inl, inr, Bool, true, false, IsTrue, List, [], ◌∷◌, length, refl, sym, ◌∙◌, ap, subst, arith}
use Rattle.std.specs.Prelude.{slice_get, ℤ, Option, Some, None}
use Rattle.std.proofs.lemmas.Bool.{cases_lt}
use Rattle.boc_program.specs.declared.body.Body.{Body}
use Rattle.boc_program.specs.declared.limits.TheConstants.{MOST_ROWS}
use Rattle.boc_program.specs.declared.short.Input.{Input}
use Rattle.boc_program.specs.Meaning.{Meaning}
use Rattle.boc_runs.specs.declared.event.Event.TheVariants as events
use Rattle.boc_runs.specs.declared.stage.Phase.TheVariants as phases
use Rattle.boc_runs.specs.declared.stage.Stage.{Stage}
use Rattle.boc_runs.specs.declared.stage.Stage.TheVariants.{Recorded}
use Rattle.boc_runs.specs.declared.step.Step.{Step}
use Rattle.boc_runs.specs.declared.step.Step.TheVariants as steps
use Rattle.boc_runs.specs.Lives.{Running, Ended}
use Rattle.boc_runs.specs.Run.{Member, meaning_of, next_wish, wish_at, state_of}
use Rattle.boc_runs.specs.machine.Stages.{OpenBehaviour, row_of, row_at, life, life_at, ready_row, ready_row_at}
use Rattle.boc_runs.specs.machine.Queues.{times}
use Rattle.boc_runs.specs.machine.Steps.{State, at, members, recorded, unrecorded, opened, stepped, noted, with_new, with_ready, with_stage}
use Rattle.boc_runs.specs.machine.Steps.{asking_on, leaving_on, child, HasNoEnqueue, Starts, Opens, Finishes, Advances}
use Rattle.boc_runs.specs.machine.Sound.{IsSound}
use Rattle.boc_runs.specs.machine.Turns.{IsEnqueueOf, TakesTurn, Begins, NoneReady, Advanced, WaitsToSettle, Opened, Finished, Left, WaitsToLeave, unless_gone}
use Rattle.boc_runs.specs.machine.Movers.{CanAdvance, CanGoOn, CanLeave, CanStart, SomebodyCanStep, Enqueue, Body as GoOn, Release, First}
use Rattle.boc_machine_laws.proofs.Allowing.{running_stage}
use Rattle.boc_machine_laws.proofs.Lists.{times-here}
use Rattle.boc_machine_laws.proofs.Members.{all_fit, means_there}
use Rattle.boc_machine_laws.proofs.Moving.{gone_or_open}
use Rattle.boc_machine_laws.proofs.OneTurn.{advance_makes, leave_makes, leaving_ended, enqueue_running, running_or_ended, leaves_leaving}
use Rattle.boc_machine_laws.proofs.Rows.{some_or_none, with_life, life_there}
use Rattle.boc_machine_laws.proofs.Serving.{one_step_more}
use Rattle.boc_eval.specs.Frames.{UnderWay as Framed}
use Rattle.boc_dispatch.specs.declared.calls.Child.{Child}
use Rattle.boc_dispatch.specs.declared.calls.Leaving.{Leaving as Token}
use Rattle.boc_dispatch.specs.declared.worker.Due.{Due}
use Rattle.boc_dispatch.specs.declared.worker.Due.TheVariants as dues
use Rattle.boc_dispatch.specs.declared.worker.Hand.{Hand}
use Rattle.boc_dispatch.specs.declared.worker.Hand.TheVariants as hands
use Rattle.boc_dispatch.specs.Underway.{Underway}
use Rattle.boc_dispatch.specs.declared.calls.Mover.{Mover}
use Rattle.boc_dispatch.specs.declared.calls.Mover.TheVariants as movers
use Rattle.boc_dispatch.specs.Calls.{IsHandedOut, IsLeaving, HasNoRoom, CanMove}
use Rattle.boc_dispatch.specs.Driving.{HandFits, row_for}
use Rattle.boc_dispatch.specs.Working.{row_in}
use Rattle.boc_dispatch.specs.Stepping.{MakesStep, CanTurn}

-- nothing is one more than itself
same_steps : (n : ℕ) → n ≡ n + 1 → ⊥
same_steps n e = omega (arith, e)

-- a test that is false exactly where something is so, is true exactly where it isn't
true_unless : (b : Bool) (A B : Type 0) → ((b ≡ false) ↔ A) → ((A → ⊥) → B) → (B → A → ⊥) → IsTrue b ↔ B
true_unless true A B h f g = (λ t. f (λ a. let e : true ≡ false = h.1 a in cc), λ b. refl)
true_unless false A B h f g = (λ t. absurd (let e : false ≡ true = t in cc), λ b. absurd (g b (h.0 refl)))

ready_stage : (st : Stage) (row : ℕ) → ready_row_at st ≡ Some row → st ≡ Recorded row phases.Ready
ready_stage (Recorded r phases.Ready) row h = let f : Some r ≡ Some row = h in let g : r ≡ row = cc in ap (λ z. Recorded z phases.Ready) g
ready_stage _ row h = absurd (let f : None ≡ Some row = h in cc)

module _ (u : Underway) (k : IsSound u.program u.state) where
  abbrev s : State
  s = u.state

  -- ---- with no row

  starts : (row : ℕ) (rest : List ℕ) → s.ready ≡ row ∷ rest → MakesStep u None
  starts row rest head =
      let ready = k.ready_only row (omega (arith, ap (times row) head, times-here row rest)) in
      elim (gone_or_open (at s ready.0)) [
        | inl e ↦ absurd (let f : None ≡ Some row = sym (ap ready_row e) ∙ ready.1 in cc)
        | inr b ↦
            let t : State = stepped (with_ready (noted (with_stage s ready.0 b.0 (Recorded row phases.Running)) (events.Start row)) rest) in
            let m : Starts s ready.0 row t = record {
              this = b.0;
              rest = rest;
              is = b.1;
              stage_is = ready_stage b.0.stage row (sym (ap ready_row b.1) ∙ ready.1);
              head = head;
              gives = refl;
            } in
            record {
              state = t;
              after = Some row;
              takes = Begins ready.0 row t m;
              steps = one_step_more u.program s steps.Start t (ready.0, row, m);
            }
      ]

  starts_first : (rows : List ℕ) → s.ready ≡ rows → (s.ready ≡ [] → ⊥) → CanTurn u None
  starts_first [] e some = absurd (some e)
  starts_first (row ∷ rest) e some = inl (starts row rest e)

  no_start : (t : State) (after : Option ℕ) → TakesTurn u.program s None t after → t.steps ≡ s.steps + 1 → s.ready ≡ [] → ⊥
  no_start t after (Begins who row t1 m) more none = let f : row ∷ m.rest ≡ [] = sym m.head ∙ none in cc
  no_start t after (NoneReady e) more none = same_steps s.steps more

  nobody_turns : CanTurn u None → s.ready ≡ [] → ⊥
  nobody_turns (inl m) none = no_start m.state m.after m.takes m.steps none
  nobody_turns (inr full) none = let f : None ≡ Some full.served = full.serves in cc

  pub free_moves : (b : Bool) → ((b ≡ false) ↔ (s.ready ≡ [])) → IsTrue b ↔ CanTurn u None
  free_moves b says = true_unless b (s.ready ≡ []) (CanTurn u None) says (starts_first s.ready refl) nobody_turns

  -- ---- with a row that runs, and has no open enqueue

  ends : (row : ℕ) (m : Member) (means : Meaning) → CanGoOn u.program s row → slice_get (members u.program s) row ≡ Some m → m.life ≡ Running
      → meaning_of u.program m ≡ Some means → m.spawned ≡ length means.wishes → MakesStep u (Some row)
  ends row m means can is runs meant all =
      let open_row = k.fits.open_rows row m is (λ e. let f : Running ≡ Ended = sym runs ∙ e in cc) in
      let who = open_row.0 in
      let has = k.fits.has_row who row open_row.1 in
      let same : has.member ≡ m = (let f : Some has.member ≡ Some m = sym has.is ∙ is in cc) in
      elim (gone_or_open (at s who)) [
        | inl gone ↦ absurd (let f : None ≡ Some row = sym (ap row_of gone) ∙ open_row.1 in cc)
        | inr b ↦
            let lives : life_at b.0.stage ≡ Running = sym (ap life b.1) ∙ sym has.life_is ∙ ap (λ (x : Member). x.life) same ∙ runs in
            let t : State = stepped (leaving_on (noted s (events.End row means.ticks means.status (record { items = means.written }))) who b.0 row 0) in
            let m : Finishes u.program s who row t = record {
              this = b.0;
              ticks = means.ticks;
              status = means.status;
              written = means.written;
              is = b.1;
              stage_is = running_stage b.0.stage row (sym (ap row_of b.1) ∙ open_row.1) lives;
              none_open = can.none_open;
              may = record {
                member = m;
                is = is;
                runs = runs;
                means = means;
                meant = meant;
                all_spawned = all;
                ticks_are = refl;
                status_is = refl;
                written_is = refl;
              };
              gives = refl;
            } in
            record {
              state = t;
              after = unless_gone row (at t who);
              takes = Finished row who t m;
              steps = one_step_more u.program s steps.Finish t (who, row, m);
            }
      ]

  pub body_moves : (row : ℕ) → CanGoOn u.program s row → CanTurn u (Some row)
  body_moves row can =
      let m = with_life (members u.program s) row Running can.runs in
      let fits = all_fit u.program s.log k.run row m.0 m.1 in
      let means = means_there u.program m.0 fits in
      let spent = fits.spent means.0 means.1 in
      elim (some_or_none means.0.wishes m.0.spawned) [
        | inl past ↦ inl (ends row m.0 means.0 can m.1 m.2 means.1 (omega (arith, past, spent)))
        | inr wish ↦
            let next : next_wish u.program (slice_get (members u.program s) row) ≡ Some wish.0 =
            ap (next_wish u.program) m.1 ∙ ap (λ o. wish_at o m.0.spawned) means.1 ∙ wish.1 in
            elim (cases_lt (recorded u.program s + unrecorded s) MOST_ROWS) [
              | inl room ↦
                  let t : State = stepped (asking_on u.program (with_new s (child row wish.0)) (opened s) (child row wish.0) 0) in
                  let o : Opens u.program s row t = record {
                    wish = wish.0;
                    may = record { runs = can.runs; none_open = can.none_open; next = next; room = room };
                    gives = refl;
                  } in
                  inl (record {
                    state = t;
                    after = Some row;
                    takes = Opened row t o;
                    steps = one_step_more u.program s steps.Open t (row, o);
                  })
              | inr many ↦ inr (record {
                served = row;
                serves = refl;
                runs = can.runs;
                none_open = can.none_open;
                wish = wish.0;
                next = next;
                full = omega (arith, many, k.counted, k.few);
              })
            ]
      ]

  -- a row that was handed out, with no open enqueue
  pub handed_moves : (row : ℕ) (b : Body) (xs : List ℤ) (i : List Input) → IsHandedOut u row b xs i → HasNoEnqueue s row → CanTurn u (Some row)
  handed_moves row b xs i handed none =
      body_moves row (record { runs = life_there (members u.program s) row handed.member handed.is ∙ ap (λ z. Some z) handed.runs; none_open = none })

  -- ---- with a row whose enqueue is open

  module _ (number row : ℕ) (q : IsEnqueueOf s number row) where
    enqueue_turns : CanAdvance u.program s number row → CanTurn u (Some row)
    enqueue_turns can = inl (record {
      state = can.after;
      after = Some row;
      takes = Advanced row number can.step can.after can.enqueue can.advances;
      steps = one_step_more u.program s can.step can.after (advance_makes u.program s number can.step can.after can.advances);
    })

    only_advances : (t : State) (after : Option ℕ) → TakesTurn u.program s (Some row) t after → t.steps ≡ s.steps + 1 → CanAdvance u.program s number row
    only_advances t after (Advanced r who step t1 e m) more =
        let same : who ≡ number = k.fits.one_enqueue who number e.is_open q.is_open (e.parent ∙ sym q.parent) in
        record { enqueue = q; step = step; after = t; advances = subst (λ (w : ℕ). Advances u.program s w step t) same m }
    only_advances t after (WaitsToSettle r who e m) more = absurd (same_steps s.steps more)
    only_advances t after (Opened r t1 m) more = absurd (m.may.none_open number q.is_open q.parent)
    only_advances t after (Finished r who t1 m) more = absurd (m.none_open number q.is_open q.parent)
    only_advances t after (Left r who step t1 m) more =
        absurd (running_or_ended (state_of (members u.program s) row) (enqueue_running u.program s k number row q)
        (leaving_ended u.program s k who row (leaves_leaving s who row step t m)))
    only_advances t after (WaitsToLeave r who m) more = absurd (same_steps s.steps more)

    turns_enqueue : CanTurn u (Some row) → CanAdvance u.program s number row
    turns_enqueue (inl m) = only_advances m.state m.after m.takes m.steps
    turns_enqueue (inr full) =
        let same : row ≡ full.served = (let f : Some row ≡ Some full.served = full.serves in cc) in
        absurd (full.none_open number q.is_open (q.parent ∙ same))

    pub enqueue_moves : (b : Bool) → IsTrue b ↔ CanAdvance u.program s number row → IsTrue b ↔ CanTurn u (Some row)
    enqueue_moves b says = (λ t. enqueue_turns (says.0 t), λ can. says.1 (turns_enqueue can))

  -- ---- with a row that leaves

  leaving_turns : (row : ℕ) → CanLeave s row → CanTurn u (Some row)
  leaving_turns row can = inl (record {
    state = can.after;
    after = unless_gone row (at can.after can.who);
    takes = Left row can.who can.step can.after can.leaves;
    steps = one_step_more u.program s can.step can.after (leave_makes u.program s can.who row can.step can.after can.leaves);
  })

  module _ (row : ℕ) (l : IsLeaving s row) where
    has_ended : state_of (members u.program s) row ≡ Some Ended
    has_ended = leaving_ended u.program s k l.who row (record {
      this = record { parent = l.parent; offset = l.offset; cowns = l.cowns; stage = Recorded row (phases.Leaving l.request) };
      request = l.request;
      is = l.is;
      stage_is = refl;
    })

    only_leaves : (t : State) (after : Option ℕ) → TakesTurn u.program s (Some row) t after → t.steps ≡ s.steps + 1 → CanLeave s row
    only_leaves t after (Advanced r who step t1 e m) more =
        absurd (running_or_ended (state_of (members u.program s) row) (enqueue_running u.program s k who row e) has_ended)
    only_leaves t after (WaitsToSettle r who e m) more = absurd (same_steps s.steps more)
    only_leaves t after (Opened r t1 m) more = absurd (running_or_ended (state_of (members u.program s) row) m.may.runs has_ended)
    only_leaves t after (Finished r who t1 m) more =
        absurd (running_or_ended (state_of (members u.program s) row)
        (life_there (members u.program s) row m.may.member m.may.is ∙ ap (λ z. Some z) m.may.runs) has_ended)
    only_leaves t after (Left r who step t1 m) more = record { who = who; step = step; after = t; leaves = m }
    only_leaves t after (WaitsToLeave r who m) more = absurd (same_steps s.steps more)

    turns_leaving : CanTurn u (Some row) → CanLeave s row
    turns_leaving (inl m) = only_leaves m.state m.after m.takes m.steps
    turns_leaving (inr full) =
        let same : full.served ≡ row = (let f : Some row ≡ Some full.served = full.serves in cc) in
        absurd (running_or_ended (state_of (members u.program s) row)
        (subst (λ (r : ℕ). state_of (members u.program s) r ≡ Some Running) same full.runs) has_ended)

    pub leaving_moves : (b : Bool) → IsTrue b ↔ CanLeave s row → IsTrue b ↔ CanTurn u (Some row)
    leaving_moves b says = (λ t. leaving_turns row (says.0 t), λ can. says.1 (turns_leaving can))

  -- ---- whoever can step

  starts_own : (row : ℕ) → CanStart s row → CanTurn u None
  starts_own row can = inl (record {
    state = can.after;
    after = Some row;
    takes = Begins can.who row can.after can.starts;
    steps = one_step_more u.program s steps.Start can.after (can.who, row, can.starts);
  })

  -- whoever can step is named, and a worker that serves it can move
  pub who_steps : SomebodyCanStep u.program s → (mover : Mover) × CanMove u mover × CanTurn u (row_for mover)
  who_steps (Enqueue who row can) = (movers.Enqueuing (record { number = who; row = row }), can, enqueue_turns who row can.enqueue can)
  who_steps (GoOn row can) = (movers.Running row, can, body_moves row can)
  who_steps (Release row can) = (movers.Leaving (record { row = row }), can, leaving_turns row can)
  who_steps (First row can) = (movers.Ready row, can, starts_own row can)

  -- ---- with something in hand

  frame_moves : (row : ℕ) (f : Framed) (due : Due) → HandFits u (hands.Framed row f due) → ((child : Child) → due ≡ dues.Enqueuing child → ⊥)
      → CanTurn u (row_in (hands.Framed row f due))
  frame_moves row f dues.Going fits other = handed_moves row f.body f.args f.inputs fits.handed fits.spawned.none_open
  frame_moves row f dues.Wishing fits other = handed_moves row f.body f.args f.inputs fits.may.handed fits.may.next.none_open
  frame_moves row f (dues.Enqueuing child) fits other = absurd (other child refl)

  -- a frame of which no wish is being enqueued
  pub framed_moves : (h : Hand) (row : ℕ) (f : Framed) (due : Due) → h ≡ hands.Framed row f due → HandFits u h
      → ((child : Child) → due ≡ dues.Enqueuing child → ⊥) → CanTurn u (row_in h)
  framed_moves h row f due is fits other =
      subst (λ (k : Hand). CanTurn u (row_in k)) (sym is) (frame_moves row f due (subst (HandFits u) is fits) other)

  -- a behaviour that was started, or whose body has ended
  pub other_moves : (h : Hand) → HandFits u h → (h ≡ hands.Nothing → ⊥) → ((row : ℕ) (f : Framed) (due : Due) → h ≡ hands.Framed row f due → ⊥)
      → ((l : Token) → h ≡ hands.Leaving l → ⊥) → CanTurn u (row_in h)
  other_moves hands.Nothing fits nothing framed leaving = absurd (nothing refl)
  other_moves (hands.Started job) fits nothing framed leaving =
      handed_moves job.row job.body job.args.items job.inputs.items fits.handed fits.spawned.none_open
  other_moves (hands.Framed row f due) fits nothing framed leaving = absurd (framed row f due refl)
  other_moves (hands.Done row o) fits nothing framed leaving = handed_moves row o.body o.args o.inputs fits.handed fits.spawned.none_open
  other_moves (hands.Leaving l) fits nothing framed leaving = absurd (leaving l refl)
