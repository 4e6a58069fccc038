-- Who can step, of what is kept.
use Rattle.std.proofs.Common.{◌≡◌, ◌≢◌, ◌↔◌, ℕ, suc, Bool, true, false, cond, List, [], ◌∷◌, refl, sym, ◌∙◌, ap, subst}
use Rattle.std.specs.Prelude.{slice_get, slice_index_or, Option, Some, None}
use Rattle.std.specs.Option.{option_map_or}
use Rattle.boc_runs.specs.declared.stage.Phase.TheVariants as phases
use Rattle.boc_runs.specs.declared.stage.Stage.TheVariants.{Asking, Recorded}
use Rattle.boc_runs.specs.declared.step.Step.TheVariants as steps
use Rattle.boc_runs.specs.Lives.{Pending, Running, Ended}
use Rattle.boc_runs.specs.Run.{Member}
use Rattle.boc_runs.specs.machine.Stages.{OpenBehaviour, parent_of, row_at, enqueues, enqueues_at, life_at}
use Rattle.boc_runs.specs.machine.Steps.{State, at, members, stepped, with_queue, leaving_on, IsQuiet}
use Rattle.boc_runs.specs.machine.Movers.{NobodyWorks, CanAdvance, CanGoOn, CanLeave, CanStart}
use Rattle.boc_machine_laws.proofs.Rows.{life_there, with_life}
use Rattle.boc_machine_laws.proofs.OneTurn.{blocked_asking, blocked_stays, who_leaves}
use Rattle.boc_machine_laws.proofs.Moving as moving
use Rattle.boc_chain.specs.declared.request.Request.{Request}
use Rattle.boc_chain.specs.declared.request.Settled.TheVariants as settles
use Rattle.boc_chain.specs.declared.request.Released.TheVariants as releases
use Rattle.boc_chain.specs.Chain.{cown, list_for, before, settle_answer, answer_behind, leave_answer}
use Rattle.boc_dispatch.specs.declared.calls.Mover.{Mover}
use Rattle.boc_dispatch.specs.declared.calls.Mover.TheVariants as movers
use Rattle.boc_dispatch.specs.declared.live.Live.{Live}
use Rattle.boc_dispatch.specs.Calls.{CanMove}
use Rattle.boc_dispatch.specs.Grants.{with_granted}
use Rattle.boc_dispatch.specs.Inside.{Parts, IsKept, state, underway, live_at, open_of, row_or_0, rows_at, IsAtStage, IsOfRow}
use Rattle.boc_dispatch.specs.Moves.{StandsStill}
use Rattle.boc_dispatch.proofs.Fronts.{Front, front, popped, unhooks, passes, blocked_next}
use Rattle.boc_dispatch.proofs.Fronts as fronts
use Rattle.boc_dispatch.proofs.Homes.{row_at_slot, slot_of_member, childless, none_open, enqueue_found}
use Rattle.boc_dispatch.proofs.Priors.{IsFree, blocked_some}
use Rattle.boc_dispatch.proofs.Settled.{requests, due, list_is, free_before}
use Rattle.boc_dispatch.proofs.Settled as settled
use Rattle.boc_dispatch.proofs.Standing.{open_is}
use Rattle.boc_dispatch.proofs.Tables.{slot_of_open}
use Rattle.boc_machine_laws.proofs.Allowing.{running_stage}

-- whoever comes before, if anyone, is flagged where settling isn't blocked
free_unless_blocked : (b : Option Request) → (answer_behind b ≡ settles.Blocked → ⊥) → IsFree b
free_unless_blocked None h = tt
free_unless_blocked (Some r) h =
    elim r.flagged as (λ x. (cond x settles.Linked settles.Blocked ≡ settles.Blocked → ⊥) → x ≡ true) [
      | true ↦ λ f. refl
      | false ↦ λ f. absurd (f refl)
    ] h

-- a test that is true doesn't say that something is blocked
not_blocked : {A : Type 0} (test : Bool) (a b : A) → ((test ≡ false) ↔ (a ≡ b)) → test ≡ true → a ≡ b → ⊥
not_blocked test a b iff can e = let f : false ≡ true = sym (iff.1 e) ∙ can in cc

-- ---- the behaviour at a slot

module _ (d : Parts) (k : IsKept d) (slot : ℕ) (l : Live) (is : live_at d.live slot ≡ Some l) where
  abbrev s : State
  s = state d

  here : at s l.number ≡ Some (open_of l)
  here = open_is d k slot l is

  pub swaps : (i : ℕ) → l.stage ≡ Asking i false → CanAdvance d.program s l.number l.parent
  swaps i st = moving.can_swap d.program s k.sound l.number i (open_of l) here st

  pub flags : (row i : ℕ) → l.stage ≡ Recorded row (phases.Flagging i) → CanAdvance d.program s l.number l.parent
  flags row i st = moving.can_flag d.program s k.sound l.number row i (open_of l) here st

  pub owns : (row : ℕ) → l.stage ≡ Recorded row phases.Owning → CanAdvance d.program s l.number l.parent
  owns row st = moving.can_own d.program s k.sound l.number row (open_of l) here st

  -- settling

  module _ (i : ℕ) (st : l.stage ≡ Asking i true) (test : Bool)
      (says : (test ≡ false) ↔ (settle_answer slot (list_for d.lists (d.place slot) i) ≡ settles.Blocked)) where
    abbrev it : IsAtStage d slot l (Asking i true)
    it = record { is = is; stage_is = st }

    same_answer : settle_answer slot (list_for d.lists (d.place slot) i) ≡ answer_behind (before slot (requests d k slot l i it))
    same_answer = ap (settle_answer slot) (list_is d k slot l i it)

    pub settles_next : test ≡ true → CanAdvance d.program s l.number l.parent
    settles_next can =
        let free = free_unless_blocked (before slot (requests d k slot l i it))
        (λ e. not_blocked test (settle_answer slot (list_for d.lists (d.place slot) i)) settles.Blocked says can (same_answer ∙ e)) in
        moving.can_settle d.program s k.sound l.number i (slice_index_or l.cowns.items i 0) (open_of l) (due d k slot l i it) (free_before d k slot l i it free)

    pub waits_to_settle : test ≡ false → StandsStill d l
    waits_to_settle cannot =
        let b = blocked_some (before slot (requests d k slot l i it)) (sym (sym same_answer ∙ says.0 cannot)) in
        let is_blocked = settled.blocked d k slot l i it b.0 b.1 b.2 in
        record {
          enqueue = λ h can. blocked_asking d.program s l.number can.step can.after can.advances is_blocked;
          body = λ row h. absurd (let f : None ≡ Some row = sym (ap row_at st) ∙ ap row_at h in cc);
          release = λ row request h. absurd (let f : None ≡ Some row = sym (ap row_at st) ∙ ap row_at h in cc);
        }

  -- who waits or is ready

  pub stands_idle : enqueues_at l.stage ≡ false → life_at l.stage ≡ Pending → StandsStill d l
  stands_idle over pending = record {
    enqueue = λ h. absurd (let f : false ≡ true = sym over ∙ h in cc);
    body = λ row h. absurd (let f : Pending ≡ Running = sym pending ∙ ap life_at h in cc);
    release = λ row request h. absurd (let f : Pending ≡ Ended = sym pending ∙ ap life_at h in cc);
  }

  -- who runs

  module _ (row : ℕ) (st : l.stage ≡ Recorded row phases.Running) where
    abbrev of_row : IsOfRow d slot row
    of_row = record { this = l; is = is; row_is = ap row_at st }

    pub goes_on : l.child ≡ None → CanGoOn d.program s row
    goes_on none =
        let r = row_at_slot d k slot row l is (ap row_at st) in
        record {
          runs = life_there (members d.program s) row r.member r.is ∙ ap (λ z. Some z) (r.life_is ∙ ap life_at st);
          none_open = none_open d k slot row of_row none;
        }

    pub waits_for_child : l.child ≢ None → StandsStill d l
    waits_for_child some = record {
      enqueue = λ h. absurd (let f : false ≡ true = sym (ap enqueues_at st) ∙ h in cc);
      body = λ r h none. some (childless d k slot r (record { this = l; is = is; row_is = ap row_at h }) none);
      release = λ r request h. absurd (let f : Running ≡ Ended = sym (ap life_at st) ∙ ap life_at h in cc);
    }

  -- who leaves

  module _ (row i : ℕ) (st : l.stage ≡ Recorded row (phases.Leaving i)) (test : Bool)
      (says : (test ≡ false) ↔ (leave_answer (slice_index_or d.lists (cown (d.place slot) i) []) ≡ releases.Blocked)) where
    abbrev f : Front d slot row i l
    f = record { kept = k; is = is; stage_is = st }

    abbrev q : List Request
    q = slice_index_or d.lists (cown (d.place slot) i) []

    passes_next : (r next : Request) (rest : List Request) → q ≡ r ∷ (next ∷ rest) → r.slot ≡ slot → next.settled ≡ true → CanLeave s row
    passes_next r next rest e mine set =
        let x = k.chained.requests (cown (d.place slot) i) 1 next (ap (λ z. slice_get z 1) e) in
        let after = stepped (leaving_on (state (with_granted next.slot (popped d slot row i l f (next ∷ rest)))) l.number (open_of l) row (suc i)) in
        record {
          who = l.number;
          step = steps.Pass i;
          after = after;
          leaves = passes d slot row i l f r next rest x.this e mine x.is set after refl;
        }

    leaves_behind : (r : Request) (rest : List Request) → q ≡ r ∷ rest → r.slot ≡ slot → (leave_answer (r ∷ rest) ≡ releases.Blocked → ⊥) → CanLeave s row
    leaves_behind r [] e mine free =
        let after = stepped (leaving_on (with_queue s (cown (d.place slot) i) []) l.number (open_of l) row (suc i)) in
        record {
          who = l.number;
          step = steps.Unhook i;
          after = after;
          leaves = unhooks d slot row i l f r e mine after refl;
        }
    leaves_behind r (next ∷ rest) e mine free =
        elim next.settled as (λ x. next.settled ≡ x → (cond x (releases.Passed (record { index = next.slot })) releases.Blocked ≡ releases.Blocked → ⊥)
        → CanLeave s row) [
          | true ↦ λ set h. passes_next r next rest e mine set
          | false ↦ λ set h. absurd (h refl)
        ] refl free

    pub leaves_next : test ≡ true → CanLeave s row
    leaves_next can =
        let w = front d slot row i l f in
        leaves_behind w.0 w.1 w.2 w.3 (λ e. not_blocked test (leave_answer q) releases.Blocked says can (ap leave_answer w.2 ∙ e))

    pub waits_to_leave : test ≡ false → StandsStill d l
    waits_to_leave cannot =
        let w = front d slot row i l f in
        let n = blocked_next q w.0 w.1 w.2 (sym (says.0 cannot)) in
        let whole : q ≡ w.0 ∷ (n.0 ∷ n.1) = w.2 ∙ ap (λ z. w.0 ∷ z) n.2 in
        let x = k.chained.requests (cown (d.place slot) i) 1 n.0 (ap (λ z. slice_get z 1) whole) in
        let is_blocked = fronts.blocked d slot row i l f w.0 n.0 n.1 x.this whole w.3 x.is n.3 in
        record {
          enqueue = λ h. absurd (let g : false ≡ true = sym (ap enqueues_at st) ∙ h in cc);
          body = λ r h. absurd (let g : Ended ≡ Running = sym (ap life_at st) ∙ ap life_at h in cc);
          release = λ r request h can.
              let g : Some row ≡ Some r = sym (ap row_at st) ∙ ap row_at h in
              let same : r ≡ row = cc in
              blocked_stays d.program s k.sound l.number row is_blocked (subst (λ (z : ℕ). CanLeave s z) same can);
        }

-- ---- where nobody can step

module _ (d : Parts) (k : IsKept d) (still : (slot : ℕ) (l : Live) → live_at d.live slot ≡ Some l → StandsStill d l) where
  no_enqueue : (who row : ℕ) → CanAdvance d.program (state d) who row → ⊥
  no_enqueue who row can =
      let e = enqueue_found d k row who can.enqueue in
      let l = e.2.this in
      let open_at : at (state d) who ≡ Some (open_of l) = ap (at (state d)) (sym e.2.number_is) ∙ open_is d k e.0 l e.2.is in
      let own : row ≡ l.parent = sym can.enqueue.parent ∙ ap parent_of open_at in
      (still e.0 l e.2.is).enqueue (sym (ap enqueues open_at) ∙ can.enqueue.is_open)
      (subst (λ (w : ℕ). CanAdvance d.program (state d) w l.parent) (sym e.2.number_is)
      (subst (λ (r : ℕ). CanAdvance d.program (state d) who r) own can))

  no_body : (row : ℕ) → CanGoOn d.program (state d) row → ⊥
  no_body row can =
      let m = with_life (members d.program (state d)) row Running can.runs in
      let x = slot_of_member d k row m.0 m.1 (λ e. let f : Running ≡ Ended = sym m.2 ∙ e in cc) in
      let l = x.1.this in
      let r = row_at_slot d k x.0 row l x.1.is x.1.row_is in
      let same : r.member ≡ m.0 = (let f : Some r.member ≡ Some m.0 = sym r.is ∙ m.1 in cc) in
      (still x.0 l x.1.is).body row (running_stage l.stage row x.1.row_is (sym r.life_is ∙ ap (λ (z : Member). z.life) same ∙ m.2)) can.none_open

  no_release : (row : ℕ) → CanLeave (state d) row → ⊥
  no_release row can =
      let w = who_leaves d.program (state d) k.sound row can in
      let x = slot_of_open d.live d.opened can.who w.this k.numbered w.is in
      (still x.0 x.1 x.2).release row w.request (ap (λ (o : OpenBehaviour). o.stage) x.4 ∙ w.stage_is) can

  pub nobody : NobodyWorks (state d)
  nobody = moving.nobody_works d.program (state d) k.sound (moving.none_open d.program (state d) k.sound no_enqueue) no_body no_release

-- ---- who can step, isn't over

pub not_quiet : (d : Parts) → IsKept d → (mover : Mover) → CanMove (underway d) mover → IsQuiet (state d) → ⊥
not_quiet d k (movers.Ready row) can = moving.start_not_quiet d.program (state d) k.sound row can
not_quiet d k (movers.Running row) can = moving.body_not_quiet d.program (state d) k.sound row can
not_quiet d k (movers.Enqueuing child) can = moving.enqueue_not_quiet d.program (state d) k.sound child.number child.row can
not_quiet d k (movers.Leaving leaving) can = moving.release_not_quiet d.program (state d) k.sound leaving.row can

-- ---- the ready list

module _ (d : Parts) (k : IsKept d) (idle : NobodyWorks (state d)) where
  pub none_ready : d.ready ≡ [] → IsQuiet (state d)
  none_ready e = moving.quiet_unless_ready d.program (state d) k.sound idle (ap (rows_at d.live) e)

  pub starts_first : (slot : ℕ) (rest : List ℕ) (l : Live) (row : ℕ) → d.ready ≡ slot ∷ rest → live_at d.live slot ≡ Some l → row_at l.stage ≡ Some row
      → CanStart (state d) row
  starts_first slot rest l row e is at_row =
      let first : option_map_or (λ (x : Live). row_or_0 x.stage) (live_at d.live slot) 0 ≡ row =
      ap (λ o. option_map_or (λ (x : Live). row_or_0 x.stage) o 0) is ∙ ap (λ o. option_map_or (λ (r : ℕ). r) o 0) at_row in
      moving.can_start d.program (state d) k.sound idle row (rows_at d.live rest)
      (ap (rows_at d.live) e ∙ ap (λ (z : ℕ). z ∷ rows_at d.live rest) first)
