-- Each kind of step leads from a sound state to a sound one.
use Rattle.std.proofs.Common.{◌≡◌, ℕ, suc, ◌+◌, ◌*◌, ◌<◌, ◌≤◌, inl, inr, true, false, List, [], ◌∷◌, ◌++◌, length, drop, refl, sym, ◌∙◌, ap, subst, arith, set}
use Rattle.std.proofs.Common.{set-set}
use Rattle.std.specs.Prelude.{nat_lt, Option, Some, None}
use Rattle.std.specs.List.{sum_by}
use Rattle.std.proofs.lemmas.Bool.{ltb-false, ltb-true}
use Rattle.std.proofs.lemmas.List.Sums.{sum_by-append}
use Rattle.std.proofs.lemmas.Option.{slice_get_within}
use Rattle.boc_program.specs.declared.program.Program.{Program}
use Rattle.boc_runs.specs.declared.event.Event.{Event}
use Rattle.boc_runs.specs.declared.event.Event.TheVariants as events
use Rattle.boc_runs.specs.declared.stage.Phase.TheVariants as phases
use Rattle.boc_runs.specs.declared.stage.Phase.TheVariants.{Flagging, Owning, Waiting, Ready, Leaving}
use Rattle.boc_runs.specs.declared.stage.Stage.{Stage}
use Rattle.boc_runs.specs.declared.stage.Stage.TheVariants.{Asking, Recorded}
use Rattle.boc_runs.specs.declared.step.Step.{Step}
use Rattle.boc_runs.specs.declared.step.Step.TheVariants as steps
use Rattle.boc_runs.specs.machine.Stages.{OpenBehaviour, standing_at, settled, settled_at, flagged, asks_at, waits, waits_at}
use Rattle.boc_runs.specs.machine.Queues.{times, is_first, all_granted}
use Rattle.boc_runs.specs.machine.Steps.{State, at, queue, recorded, opened, stepped, noted, with_behaviour, with_stage, with_new, with_ready, with_queue}
use Rattle.boc_runs.specs.machine.Steps.{with_spawn, asking_on, leaving_on, made_ready, owned, flagging, woken, woken_if, woken_at, child, Opens, Swaps}
use Rattle.boc_runs.specs.machine.Steps.{Settles, Flags, Owns, Starts, Finishes, Unhooks, Passes, Makes}
use Rattle.boc_runs.specs.machine.AlongRows.{steps_of}
use Rattle.boc_runs.specs.machine.Sound.{IsSound, HasNextRequest, made, made_at, owed, owed_at}
use Rattle.boc_machine_laws.proofs.Lists.{same_or_not, read_front}
use Rattle.boc_machine_laws.proofs.Lawful.{nobody, is_first_of}
use Rattle.boc_machine_laws.proofs.Core.{Core, HasRequests, HasSteps, core_of, core_with, sound_of, core_stepped, put_here, put_sum}
use Rattle.boc_machine_laws.proofs.Asking.{AsksOn, taken_there, keeps_swap, keeps_asking, keeps_recording}
use Rattle.boc_machine_laws.proofs.Going.{keeps_flag, keeps_wait, keeps_ready, keeps_start, keeps_end, keeps_release, keeps_gone}
use Rattle.boc_machine_laws.proofs.Opening.{keeps_new, new_here}
use Rattle.boc_machine_laws.proofs.Counting.{steps_of_log, steps_spawned, steps_started, steps_ended, steps_put, requests_put, OthersHaveRequests, by_test}
use Rattle.boc_machine_laws.proofs.Counting.{dropped_one, dropped_all, owed_flagging, next_flagging}

-- what is kept in a state after which one step more is counted
pub record Nearly (p : Program) (s : State) (but : ℕ → Type 0) : Type 0 where
  pub core : Core p s but
  pub requests : HasRequests s
  pub steps : HasSteps (stepped s)

whole : (p : Program) (s : State) → Nearly p s nobody → IsSound p (stepped s)
whole p s n = sound_of p (stepped s) (core_stepped p s nobody n.core) n.requests n.steps

-- a stage that has its next request
stage_next : (b : OpenBehaviour) (st : Stage) → HasNextRequest st b.cowns → (c : OpenBehaviour)
    → Some (record b { stage = st }) ≡ Some c → HasNextRequest c.stage c.cowns
stage_next b st h c e =
    let same : ◌≡◌ {A = OpenBehaviour} (record b { stage = st }) c = cc in
    subst (λ (z : OpenBehaviour). HasNextRequest z.stage z.cowns) same h

none_next : (c : OpenBehaviour) → None ≡ Some c → HasNextRequest c.stage c.cowns
none_next c e = absurd cc

-- ---- the next request, or the spawn

-- of the one step more some may be counted already
module _ (p : Program) (s : State) (k : Core p s nobody) (who : ℕ) (r : OthersHaveRequests s who) (paid more : ℕ)
    (one : paid + more ≡ 1)
    (count : s.steps + paid + 2 + sum_by owed s.behaviours ≡ steps_of_log s.log + sum_by made s.behaviours)
    (b : OpenBehaviour) (n : ℕ) (a : AsksOn s who b n)
    (few : n ≤ length b.cowns) (already : made (Some b) + more ≡ 1 + 2 * n) (nothing : owed (Some b) ≡ 0) where
  -- the steps, with another in its place and so many more of the log's rows
  steps_on : (b' : OpenBehaviour) (log' also : ℕ) → log' ≡ steps_of_log s.log + also
      → 1 + 2 * n + owed (Some b') ≡ also + made (Some b')
      → s.steps + 1 + 2 + sum_by owed (set s.behaviours who (Some b'))
      ≡ log' + sum_by made (set s.behaviours who (Some b'))
  steps_on b' log' also l e =
      omega (
        arith,
        put_sum owed s who b (Some b') a.is,
        put_sum made s who b (Some b') a.is,
        count,
        one,
        already,
        nothing,
        l,
        e,
      )

  goes_on : n < length b.cowns → Nearly p (with_stage s who b (Asking n false)) nobody
  goes_on l =
      let b' : OpenBehaviour = record b { stage = Asking n false } in
      record {
        core = keeps_asking p s k who b n a;
        requests = requests_put s who r b (Some b') a.is (stage_next b (Asking n false) l);
        steps = steps_on b' (steps_of_log s.log) 0 (omega arith) (omega arith);
      }

  goes_recorded : length b.cowns ≤ n → Nearly p (with_spawn p s who b) nobody
  goes_recorded l =
      let st : Stage = Recorded (recorded p s) (flagging b.cowns 0) in
      let b' : OpenBehaviour = record b { stage = st } in
      let o : owed (Some b') ≡ length b.cowns + 3 + length b.cowns = owed_flagging (recorded p s) b.cowns 0 in
      record {
        core = keeps_recording p s k who b n a l;
        requests = requests_put s who r b (Some b') a.is (stage_next b st (next_flagging (recorded p s) b.cowns 0));
        steps = steps_on b' (steps_of_log (with_spawn p s who b).log) (steps_of (length b.cowns))
            (steps_spawned s.log (recorded p s) b.parent b.offset (record { items = b.cowns })) (omega (arith, o, few, l));
      }

  pub goes_asking : Nearly p (asking_on p s who b n) nobody
  goes_asking =
      by_test (λ t. Nearly p t nobody) (nat_lt n (length b.cowns)) (with_stage s who b (Asking n false))
      (with_spawn p s who b)
      (λ h. goes_on (ltb-true n (length b.cowns) h)) (λ h. goes_recorded (ltb-false n (length b.cowns) h))

-- ---- Open

pub keeps_opens : (p : Program) (s : State) (row : ℕ) (t : State) → IsSound p s → Opens p s row t → IsSound p t
keeps_opens p s row t k m =
    let c = core_of p s k in
    let w = m.wish in
    let u = with_new s (child row w) in
    let b = child row w in
    let counts : u.steps + 1 + 2 + sum_by owed u.behaviours ≡ steps_of_log u.log + sum_by made u.behaviours =
    omega (
      arith,
      k.steps_are,
      sum_by-append owed s.behaviours (Some b ∷ []),
      sum_by-append made s.behaviours (Some b ∷ []),
    ) in
    let g = goes_asking p u (keeps_new p s c row w m.may) (opened s)
    (λ v n x e. k.requests v x (sym (read_front s.behaviours (Some b) v n) ∙ e)) 1 0 (omega arith) counts b 0
    (record {
      is = new_here p s c row w m.may;
      asks_is = refl;
      stands = refl;
      free =
          λ d ahead behind x e h. absurd (omega (arith, h));
    }) (omega arith) (omega arith) refl in
    subst (IsSound p) (sym m.gives) (whole p (asking_on p u (opened s) b 0) g)

-- ---- Swap

pub keeps_swaps : (p : Program) (s : State) (who i : ℕ) (t : State) → IsSound p s → Swaps s who i t → IsSound p t
keeps_swaps p s who i t k m =
    let b = m.this in
    let b' : OpenBehaviour = record b { stage = Asking i true } in
    let u = with_queue (with_stage s who b (Asking i true)) m.c (queue s m.c ++ (who ∷ [])) in
    subst (IsSound p) (sym m.gives) (whole p u (record {
      core = keeps_swap p s (core_of p s k) who b i m.c m.due;
      requests = requests_put s who (λ v n. k.requests v) b (Some b') m.due.is
          (stage_next b (Asking i true) (slice_get_within b.cowns i m.c m.due.cown));
      steps = steps_put s k.steps_are who b (Some b') m.due.is 1 0 (steps_of_log s.log) (omega arith)
          (let x : made (Some b) ≡ 1 + 2 * i = ap made_at m.due.stage_is in
          let y : owed (Some b) ≡ 0 = ap (λ z. owed_at z b.cowns) m.due.stage_is in omega (arith, x, y));
    }))

-- ---- Settle

pub keeps_settles : (p : Program) (s : State) (who i : ℕ) (t : State) → IsSound p s → Settles p s who i t → IsSound p t
keeps_settles p s who i t k m =
    let b = m.this in
    let c = m.c in
    let g = goes_asking p s (core_of p s k) who (λ v n. k.requests v) 0 1 (omega arith) (omega (arith, k.steps_are)) b
    (suc i) (record {
      is = m.due.is;
      asks_is = ap asks_at m.due.stage_is;
      stands = ap (λ z. standing_at z b.cowns) m.due.stage_is;
      free = λ d ahead behind x e h. elim (same_or_not d c) [
        | inl q ↦ subst (λ (z : ℕ). 0 < times z (flagged (at s x))) (sym q)
            (m.free ahead behind x (ap (queue s) (sym q) ∙ e))
        | inr n ↦ k.lawful.linked d ahead behind x who e
            (subst (λ (cs : List ℕ). 0 < times d cs)
            (sym (ap settled m.due.is ∙ ap (λ z. settled_at z b.cowns) m.due.stage_is))
            (subst (λ (z : ℕ). 0 < z) (taken_there b.cowns i c d m.due.cown n) h))
      ];
    }) (omega (arith, slice_get_within b.cowns i c m.due.cown))
    (let x : made (Some b) ≡ 2 + 2 * i = ap made_at m.due.stage_is in omega (arith, x))
    (ap (λ z. owed_at z b.cowns) m.due.stage_is) in
    subst (IsSound p) (sym m.gives) (whole p (asking_on p s who b (suc i)) g)

-- ---- Flag

pub keeps_flags : (p : Program) (s : State) (who i : ℕ) (t : State) → IsSound p s → Flags s who i t → IsSound p t
keeps_flags p s who i t k m =
    let b = m.this in
    let st : Stage = Recorded m.row (flagging b.cowns (suc i)) in
    let b' : OpenBehaviour = record b { stage = st } in
    let low = slice_get_within b.cowns i m.c m.due.cown in
    let x : owed (Some b') ≡ length (drop (suc i) b.cowns) + 3 + length b.cowns = owed_flagging m.row b.cowns (suc i) in
    let y : owed (Some b) ≡ length (drop i b.cowns) + 3 + length b.cowns = ap (λ z. owed_at z b.cowns) m.due.stage_is in
    let z : made (Some b) ≡ 0 = ap made_at m.due.stage_is in
    subst (IsSound p) (sym m.gives) (whole p (with_stage s who b st) (record {
      core = keeps_flag p s who b m.row i m.c (core_of p s k) m.due;
      requests = requests_put s who (λ v n. k.requests v) b (Some b') m.due.is
          (stage_next b st (next_flagging m.row b.cowns (suc i)));
      steps = steps_put s k.steps_are who b (Some b') m.due.is 1 0 (steps_of_log s.log) (omega arith)
          (omega (arith, x, y, z, dropped_one b.cowns i low));
    }))

-- ---- Own

pub keeps_owns : (p : Program) (s : State) (who : ℕ) (t : State) → IsSound p s → Owns s who t → IsSound p t
keeps_owns p s who t k m =
    let b = m.this in
    let r = m.row in
    let c = core_of p s k in
    let y : owed (Some b) ≡ 3 + length b.cowns = ap (λ z. owed_at z b.cowns) m.stage_is in
    let z : made (Some b) ≡ 0 = ap made_at m.stage_is in
    let ready : all_granted (at s) (queue s) who ≡ true → Nearly p (made_ready s who b r) nobody = λ h. record {
      core = keeps_ready p s nobody c who b r Owning m.is m.stage_is refl (λ cs. refl) refl (λ v f. absurd f) h;
      requests = requests_put s who (λ v n. k.requests v) b (Some (record b { stage = Recorded r Ready })) m.is
          (stage_next b (Recorded r Ready) tt);
      steps = steps_put s k.steps_are who b (Some (record b { stage = Recorded r Ready })) m.is 1 0
          (steps_of_log s.log) (omega arith) (omega (arith, y, z));
    } in
    let waits : all_granted (at s) (queue s) who ≡ false
    → Nearly p (with_stage s who b (Recorded r Waiting)) nobody = λ h. record {
      core = keeps_wait p s who b r c m.is m.stage_is h;
      requests = requests_put s who (λ v n. k.requests v) b (Some (record b { stage = Recorded r Waiting })) m.is
          (stage_next b (Recorded r Waiting) tt);
      steps = steps_put s k.steps_are who b (Some (record b { stage = Recorded r Waiting })) m.is 1 0
          (steps_of_log s.log) (omega arith) (omega (arith, y, z));
    } in
    subst (IsSound p) (sym m.gives) (whole p (owned s who b r)
    (by_test (λ u. Nearly p u nobody) (all_granted (at s) (queue s) who) (made_ready s who b r)
    (with_stage s who b (Recorded r Waiting)) ready waits))

-- ---- Start

pub keeps_starts : (p : Program) (s : State) (who row : ℕ) (t : State) → IsSound p s → Starts s who row t → IsSound p t
keeps_starts p s who row t k m =
    let b = m.this in
    let st : Stage = Recorded row phases.Running in
    let b' : OpenBehaviour = record b { stage = st } in
    let y : owed (Some b) ≡ 2 + length b.cowns = ap (λ z. owed_at z b.cowns) m.stage_is in
    let z : made (Some b) ≡ 0 = ap made_at m.stage_is in
    let u = with_ready (noted (with_stage s who b st) (events.Start row)) m.rest in
    subst (IsSound p) (sym m.gives) (whole p u (record {
      core = keeps_start p s (core_of p s k) who b row m.rest m.is m.stage_is m.head;
      requests = requests_put s who (λ v n. k.requests v) b (Some b') m.is (stage_next b st tt);
      steps = steps_put s k.steps_are who b (Some b') m.is 1 0 (steps_of_log u.log)
          (omega (arith, steps_started s.log row)) (omega (arith, y, z));
    }))

-- ---- the next release, or gone

-- to put nothing where something was put before is to put nothing at once
gone_at_once : (s : State) (who : ℕ) (b : OpenBehaviour) (st : Stage)
    → with_behaviour (with_stage s who b st) who None ≡ with_behaviour s who None
gone_at_once s who b st = ap (λ bs. let t : State = record s { behaviours = bs } in t)
    (set-set s.behaviours who (Some (record b { stage = st })) None)

-- the behaviour leaves from this request on, in a state of which all is known but that
module _ (p : Program) (s : State) (but : ℕ → Type 0) (who : ℕ) (b : OpenBehaviour) (r n : ℕ) (is : at s who ≡ Some b)
    (core : Core p (with_stage s who b (Recorded r (Leaving n))) but) (rest : OthersHaveRequests s who)
    (count : s.steps + 2 + sum_by owed s.behaviours ≡ steps_of_log s.log + sum_by made s.behaviours)
    (before : owed (Some b) ≡ length (drop n b.cowns) + 1) (nothing : made (Some b) ≡ 0) where
  leaves_on : n < length b.cowns → Nearly p (with_stage s who b (Recorded r (Leaving n))) but
  leaves_on l =
      let b' : OpenBehaviour = record b { stage = Recorded r (Leaving n) } in
      record {
        core = core;
        requests = requests_put s who rest b (Some b') is (stage_next b (Recorded r (Leaving n)) l);
        steps = steps_put s count who b (Some b') is 1 0 (steps_of_log s.log) (omega arith)
            (omega (arith, before, nothing));
      }

  leaves_none : length b.cowns ≤ n → Nearly p (with_behaviour s who None) but
  leaves_none l =
      let b' : OpenBehaviour = record b { stage = Recorded r (Leaving n) } in
      record {
        core = subst (λ (t : State). Core p t but) (gone_at_once s who b (Recorded r (Leaving n)))
            (keeps_gone p (with_stage s who b (Recorded r (Leaving n))) but core who b' r n
            (put_here s who b (Some b') is) refl l);
        requests = requests_put s who rest b None is none_next;
        steps = steps_put s count who b None is 1 0 (steps_of_log s.log) (omega arith)
            (omega (arith, before, nothing, dropped_all b.cowns n l));
      }

  pub goes_leaving : Nearly p (leaving_on s who b r n) but
  goes_leaving =
      by_test (λ t. Nearly p t but) (nat_lt n (length b.cowns)) (with_stage s who b (Recorded r (Leaving n)))
      (with_behaviour s who None)
      (λ h. leaves_on (ltb-true n (length b.cowns) h)) (λ h. leaves_none (ltb-false n (length b.cowns) h))

-- ---- Finish

pub keeps_finishes : (p : Program) (s : State) (who row : ℕ) (t : State) → IsSound p s → Finishes p s who row t
    → IsSound p t
keeps_finishes p s who row t k m =
    let b = m.this in
    let e : Event = events.End row m.ticks m.status (record { items = m.written }) in
    let y : owed (Some b) ≡ 1 + length b.cowns = ap (λ z. owed_at z b.cowns) m.stage_is in
    let z : made (Some b) ≡ 0 = ap made_at m.stage_is in
    let g = goes_leaving p (noted s e) nobody who b row 0 m.is
    (keeps_end p s (core_of p s k) who b row m.ticks m.status m.written m.is m.stage_is m.none_open m.may)
    (λ v n. k.requests v) (omega (
      arith,
      k.steps_are,
      steps_ended s.log row m.ticks m.status (record { items = m.written }),
    )) (omega (arith, y)) z in
    subst (IsSound p) (sym m.gives) (whole p (leaving_on (noted s e) who b row 0) g)

-- ---- Unhook

-- of nobody behind, nobody is first
none_first : (p : Program) (s : State) → Nearly p s (λ v. is_first v [] ≡ true) → Nearly p s nobody
none_first p s n = record {
  core = core_with p s (λ v. is_first v [] ≡ true) n.core
      (λ v h f. n.core.waiting v h (λ g. let e : false ≡ true = g in cc));
  requests = n.requests;
  steps = n.steps;
}

pub keeps_unhooks : (p : Program) (s : State) (who row i : ℕ) (t : State) → IsSound p s → Unhooks s who row i t
    → IsSound p t
keeps_unhooks p s who row i t k m =
    let b = m.this in
    let low = slice_get_within b.cowns i m.c m.due.cown in
    let y : owed (Some b) ≡ length (drop i b.cowns) = ap (λ z. owed_at z b.cowns) m.due.stage_is in
    let z : made (Some b) ≡ 0 = ap made_at m.due.stage_is in
    let g = goes_leaving p (with_queue s m.c []) (λ v. is_first v [] ≡ true) who b row (suc i) m.due.is
    (keeps_release p s (core_of p s k) who b row i m.c [] m.due m.alone)
    (λ v n. k.requests v) k.steps_are (omega (arith, y, dropped_one b.cowns i low)) z in
    subst (IsSound p) (sym m.gives) (whole p (leaving_on (with_queue s m.c []) who b row (suc i))
    (none_first p (leaving_on (with_queue s m.c []) who b row (suc i)) g))

-- ---- Pass

-- whoever may be due to be woken is this one
module _ (p : Program) (s : State) (but : ℕ → Type 0) (n : Nearly p s but) (next : ℕ)
    (only : (v : ℕ) → but v → v ≡ next) where
  -- it isn't due
  stays : (waits (at s next) ≡ true → all_granted (at s) (queue s) next ≡ false) → Nearly p s nobody
  stays mine = record {
    core = core_with p s but n.core (λ v h f. elim (same_or_not v next) [
      | inl e ↦ ap (all_granted (at s) (queue s)) e ∙ mine (sym (ap (λ z. waits (at s z)) e) ∙ h)
      | inr ne ↦ n.core.waiting v h (λ g. ne (only v g))
    ]);
    requests = n.requests;
    steps = n.steps;
  }

  not_waiting : (b : OpenBehaviour) (st : Stage) → at s next ≡ Some b → b.stage ≡ st → waits_at st ≡ false
      → Nearly p s nobody
  not_waiting b st is e isnt = stays (λ h. absurd
      (let f : false ≡ true = sym (ap waits is ∙ ap waits_at e ∙ isnt) ∙ h in cc))

  wakes : (b : OpenBehaviour) (r : ℕ) → at s next ≡ Some b → b.stage ≡ Recorded r Waiting
      → all_granted (at s) (queue s) next ≡ true → Nearly p (made_ready s next b r) nobody
  wakes b r is e h =
      let b' : OpenBehaviour = record b { stage = Recorded r Ready } in
      let y : owed (Some b) ≡ 2 + length b.cowns = ap (λ z. owed_at z b.cowns) e in
      let z : made (Some b) ≡ 0 = ap made_at e in
      record {
        core = keeps_ready p s but n.core next b r Waiting is e refl (λ cs. refl) refl only h;
        requests = requests_put s next (λ v m. n.requests v) b (Some b') is (stage_next b (Recorded r Ready) tt);
        steps = omega (arith, n.steps, put_sum owed s next b (Some b') is, put_sum made s next b (Some b') is, y, z);
      }

  woken_stage : (b : OpenBehaviour) (st : Stage) → at s next ≡ Some b → b.stage ≡ st
      → Nearly p (woken_at s next b st) nobody
  woken_stage b (Asking i x) is e = not_waiting b (Asking i x) is e refl
  woken_stage b (Recorded r (Flagging i)) is e = not_waiting b (Recorded r (Flagging i)) is e refl
  woken_stage b (Recorded r Owning) is e = not_waiting b (Recorded r Owning) is e refl
  woken_stage b (Recorded r Waiting) is e =
      by_test (λ t. Nearly p t nobody) (all_granted (at s) (queue s) next) (made_ready s next b r) s (wakes b r is e)
      (λ h. stays (λ w. h))
  woken_stage b (Recorded r Ready) is e = not_waiting b (Recorded r Ready) is e refl
  woken_stage b (Recorded r phases.Running) is e = not_waiting b (Recorded r phases.Running) is e refl
  woken_stage b (Recorded r (Leaving i)) is e = not_waiting b (Recorded r (Leaving i)) is e refl

  woken_at_all : (o : Option OpenBehaviour) → at s next ≡ o → Nearly p (woken_if s next o) nobody
  woken_at_all None is = stays (λ h. absurd (let f : false ≡ true = sym (ap waits is) ∙ h in cc))
  woken_at_all (Some b) is = woken_stage b b.stage is refl

  pub goes_woken : Nearly p (woken s next) nobody
  goes_woken = woken_at_all (at s next) refl

pub keeps_passes : (p : Program) (s : State) (who row i : ℕ) (t : State) → IsSound p s → Passes s who row i t
    → IsSound p t
keeps_passes p s who row i t k m =
    let b = m.this in
    let behind = m.next ∷ m.rest in
    let low = slice_get_within b.cowns i m.c m.due.cown in
    let y : owed (Some b) ≡ length (drop i b.cowns) = ap (λ z. owed_at z b.cowns) m.due.stage_is in
    let z : made (Some b) ≡ 0 = ap made_at m.due.stage_is in
    let u = leaving_on (with_queue s m.c behind) who b row (suc i) in
    let g = goes_leaving p (with_queue s m.c behind) (λ v. is_first v behind ≡ true) who b row (suc i) m.due.is
    (keeps_release p s (core_of p s k) who b row i m.c behind m.due m.front)
    (λ v n. k.requests v) k.steps_are (omega (arith, y, dropped_one b.cowns i low)) z in
    subst (IsSound p) (sym m.gives) (whole p (woken u m.next)
    (goes_woken p u (λ v. is_first v behind ≡ true) g m.next (λ v h. is_first_of behind m.next v refl h)))

-- ---- all nine

pub keeps_step : (p : Program) (s : State) (step : Step) (t : State) → IsSound p s → Makes p s step t → IsSound p t
keeps_step p s steps.Open t k m = keeps_opens p s m.0 t k m.1
keeps_step p s (steps.Swap i) t k m = keeps_swaps p s m.0 i t k m.1
keeps_step p s (steps.Settle i) t k m = keeps_settles p s m.0 i t k m.1
keeps_step p s (steps.Flag i) t k m = keeps_flags p s m.0 i t k m.1
keeps_step p s steps.Own t k m = keeps_owns p s m.0 t k m.1
keeps_step p s steps.Start t k m = keeps_starts p s m.0 m.1 t k m.2
keeps_step p s steps.Finish t k m = keeps_finishes p s m.0 m.1 t k m.2
keeps_step p s (steps.Unhook i) t k m = keeps_unhooks p s m.0 m.1 i t k m.2
keeps_step p s (steps.Pass i) t k m = keeps_passes p s m.0 m.1 i t k m.2
