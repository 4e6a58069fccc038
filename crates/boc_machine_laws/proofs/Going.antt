-- Flag, Own, Start and Finish keep what every state keeps, and so do the releases.
use Rattle.std.proofs.Common.{◌≡◌, ◌≢◌, ℕ, zero, suc, ◌+◌, ◌<◌, ◌≤◌, inl, inr, Bool, true, false, cond, List, [], ◌∷◌, ◌++◌, length, drop, refl, sym, ◌∙◌, ap}
use Rattle.std.proofs.Common.{subst, arith, get_or-set_other, get_or-set_same, length-set}
use Rattle.std.specs.Prelude.{slice_get, Option, Some, None}
use Rattle.boc_program.specs.declared.program.Program.{Program}
use Rattle.boc_program.specs.declared.body.EndStatus.{EndStatus}
use Rattle.boc_runs.specs.declared.event.Event.{Event}
use Rattle.boc_runs.specs.declared.event.Event.TheVariants as events
use Rattle.boc_runs.specs.declared.stage.Phase.{Phase}
use Rattle.boc_runs.specs.declared.stage.Phase.TheVariants as phases
use Rattle.boc_runs.specs.declared.stage.Phase.TheVariants.{Flagging, Owning, Waiting, Ready, Leaving}
use Rattle.boc_runs.specs.declared.stage.Stage.{Stage}
use Rattle.boc_runs.specs.declared.stage.Stage.TheVariants.{Recorded}
use Rattle.boc_program.specs.Changed.{changed}
use Rattle.boc_runs.specs.Lives.{Pending, Running, Ended}
use Rattle.boc_runs.specs.Run.{Member, Config, config_of, config_after, opening, started_on, state_of, CanEnd, MayHappen}
use Rattle.boc_runs.specs.machine.Stages.{OpenBehaviour, standing, standing_at, settled, settled_at, flagged, flagged_at, row_of, row_at, ready_row}
use Rattle.boc_runs.specs.machine.Stages.{ready_row_at, holds, holds_at, cowns_of, life, life_at, asks, asks_at, enqueues, enqueues_at, waits, waits_at}
use Rattle.boc_runs.specs.machine.Stages.{parent_of, offset_of}
use Rattle.boc_runs.specs.machine.Queues.{times, is_first, all_granted}
use Rattle.boc_runs.specs.machine.Steps.{State, at, queue, members, values, noted, with_behaviour, with_stage, with_queue, with_ready, flagging, made_ready}
use Rattle.boc_runs.specs.machine.Steps.{HasNoEnqueue, IsDue}
use Rattle.boc_runs.specs.machine.Sound.{Fits}
use Rattle.boc_program.proofs.ChangedItems.{length-changed}
use Rattle.boc_machine_laws.proofs.Lists.{same_or_not, no_less, times-here, times-other, times-append}
use Rattle.boc_machine_laws.proofs.Lawful.{nobody, OthersStay, at_each, release, nowhere, relabel, ordered_kept, waits_on, waits_kept, waits_release}
use Rattle.boc_machine_laws.proofs.Lawful.{granted_first}
use Rattle.boc_machine_laws.proofs.Lawful.{times-take-le, regranted}
use Rattle.boc_machine_laws.proofs.Rows.{config_more, run_more}
use Rattle.boc_machine_laws.proofs.Fitting.{goes_on_at, fits_on, fits_row, fits_gone}
use Rattle.boc_machine_laws.proofs.Starts.{may_start, stands_for_all}
use Rattle.boc_machine_laws.proofs.Asking.{taken_more, among, flagging_enqueuing}
use Rattle.boc_machine_laws.proofs.Core.{Core, put_here, put_others, once_kept, only_kept, core_put, core_on}
use Rattle.std.proofs.lemmas.List.{drop_all}

-- ---- the ready list

-- a ready behaviour has its row
ready_at_row : (st : Stage) (q : ℕ) → ready_row_at st ≡ Some q → row_at st ≡ Some q
ready_at_row (Recorded r Ready) q h = h
ready_at_row _ q h = absurd (let f : None ≡ Some q = h in cc)

pub ready_has_row : (b : Option OpenBehaviour) (q : ℕ) → ready_row b ≡ Some q → row_of b ≡ Some q
ready_has_row None q h = absurd (let f : None ≡ Some q = h in cc)
ready_has_row (Some b) q h = ready_at_row b.stage q h

-- the row of one that isn't ready isn't in the ready list
none_ready : (p : Program) (s : State) (but : ℕ → Type 0) → Core p s but → (who r : ℕ) → row_of (at s who) ≡ Some r
    → ready_row (at s who) ≡ None → times r s.ready ≡ 0
none_ready p s but k who r row none =
    no_less (times r s.ready) (λ h.
    let o = k.ready_only r h in
    let same : o.0 ≡ who = k.fits.one_row o.0 who r (ready_has_row (at s o.0) r o.1) row in
    let f : None ≡ Some r = sym none ∙ ap (λ z. ready_row (at s z)) (sym same) ∙ o.1 in cc)

-- ---- from one phase to another, with no event: Flag, and Own where some request isn't granted

-- what the next phase keeps of the one before
pub record Moves (r : ℕ) (phase next : Phase) (cs : List ℕ) : Type 0 where
  pub stand : standing_at (Recorded r next) cs ≡ standing_at (Recorded r phase) cs
  pub flags : (c : ℕ) → times c (flagged_at (Recorded r phase) cs) ≤ times c (flagged_at (Recorded r next) cs)
  pub life_same : life_at (Recorded r next) ≡ life_at (Recorded r phase)
  pub holds_not : holds_at (Recorded r next) ≡ false
  pub ready_same : ready_row_at (Recorded r next) ≡ ready_row_at (Recorded r phase)
  pub enqueues_less : enqueues_at (Recorded r next) ≡ true → enqueues_at (Recorded r phase) ≡ true

module _ (p : Program) (s : State) (k : Core p s nobody) (who : ℕ) (b : OpenBehaviour) (r : ℕ) (phase next : Phase)
    (is : at s who ≡ Some b) (stage : b.stage ≡ Recorded r phase) (m : Moves r phase next b.cowns) where
  pub keeps_move : (waits_at (Recorded r next) ≡ true
      → all_granted (at (with_stage s who b (Recorded r next))) (queue s) who ≡ false)
      → Core p (with_stage s who b (Recorded r next)) nobody
  keeps_move ungranted =
      let t = with_stage s who b (Recorded r next) in
      let b' : OpenBehaviour = record b { stage = Recorded r next } in
      let other : OthersStay (at s) (at t) who = put_others s who (Some b') in
      let is' : at t who ≡ Some b' = put_here s who b (Some b') is in
      let row : row_of (at s who) ≡ Some r = ap row_of is ∙ ap row_at stage in
      let cowns : cowns_of (at t who) ≡ cowns_of (at s who) = ap cowns_of is' ∙ sym (ap cowns_of is) in
      let asks_same : asks (Some b') ≡ asks (Some b) = sym (ap asks_at stage) in
      let ready_same : ready_row (Some b') ≡ ready_row (Some b) = m.ready_same ∙ sym (ap ready_row_at stage) in
      core_on p s nobody k who b (Some b') is s.queues nobody refl asks_same ready_same (λ c h. h)
      (relabel (at s) (at t) (queue s) who k.laws other
      (λ d. ap (times d) (ap standing is' ∙ m.stand
      ∙ sym (ap standing is ∙ ap (λ z. standing_at z b.cowns) stage)))
      cowns
      (λ d ahead behind x f h. k.laws.linked d ahead behind x who f
      (subst (λ (cs : List ℕ). 0 < times d cs)
      (ap settled is' ∙ sym (ap settled is ∙ ap (λ z. settled_at z b.cowns) stage)) h))
      (λ d h. omega (
        arith,
        m.flags d,
        ap (times d) (ap flagged is ∙ ap (λ z. flagged_at z b.cowns) stage),
        ap (times d) (ap flagged is'),
      ))
      (ordered_kept (at s) (at t) (queue s) who k.laws other (ap row_of is' ∙ sym row))
      (λ d h. absurd (let f : false ≡ true = sym (ap holds is' ∙ m.holds_not) ∙ h in cc)))
      (waits_kept (at s) (at t) (queue s) (queue s) who nobody nobody k.waiting other (λ v f. f)
      (λ v c n f. refl) (λ h. ungranted (sym (ap waits is') ∙ h)))
      (fits_on p (members p s) (at s) (at t) who k.fits other (goes_on_at b (Recorded r phase) (Recorded r next)
      (at s who) (at t who) is stage is' refl m.life_same (λ h. h) m.enqueues_less))

-- Flag
flag_moves_at : (r i : ℕ) (cs : List ℕ) (more : Bool) → Moves r (Flagging i) (cond more (Flagging (suc i)) Owning) cs
flag_moves_at r i cs true = record {
  stand = refl;
  flags = λ c. taken_more cs i c;
  life_same = refl;
  holds_not = refl;
  ready_same = refl;
  enqueues_less = λ h. refl;
}
flag_moves_at r i cs false = record {
  stand = refl;
  flags = λ c. times-take-le c i cs;
  life_same = refl;
  holds_not = refl;
  ready_same = refl;
  enqueues_less = λ h. refl;
}

pub keeps_flag : (p : Program) (s : State) (who : ℕ) (b : OpenBehaviour) (r i c : ℕ) → Core p s nobody
    → IsDue s who b (Recorded r (Flagging i)) i c
    → Core p (with_stage s who b (Recorded r (flagging b.cowns (suc i)))) nobody
keeps_flag p s who b r i c k due =
    keeps_move p s k who b r (Flagging i) (flagging b.cowns (suc i)) due.is due.stage_is (flag_moves_at r i b.cowns _)
    (λ h. absurd (let f : false ≡ true = sym ((flagging_enqueuing b.cowns (suc i)).waits_not r) ∙ h in cc))

-- Own, where it waits
pub keeps_wait : (p : Program) (s : State) (who : ℕ) (b : OpenBehaviour) (r : ℕ) → Core p s nobody → at s who ≡ Some b
    → b.stage ≡ Recorded r Owning
    → all_granted (at s) (queue s) who ≡ false → Core p (with_stage s who b (Recorded r Waiting)) nobody
keeps_wait p s who b r k is stage ungranted =
    let b' : OpenBehaviour = record b { stage = Recorded r Waiting } in
    let is' : at (with_stage s who b (Recorded r Waiting)) who ≡ Some b' = put_here s who b (Some b') is in
    keeps_move p s k who b r Owning Waiting is stage
    (record {
      stand = refl;
      flags = λ c. omega arith;
      life_same = refl;
      holds_not = refl;
      ready_same = refl;
      enqueues_less = λ h. refl;
    })
    (λ h. regranted (at s) (at (with_stage s who b (Recorded r Waiting))) (queue s) who
    (ap settled is' ∙ sym (ap settled is ∙ ap (λ z. settled_at z b.cowns) stage))
    (ap cowns_of is' ∙ sym (ap cowns_of is)) ∙ ungranted)

-- ---- joining the ready list

-- Own and Pass, for one whose requests are all granted
module _ (p : Program) (s : State) (but : ℕ → Type 0) (k : Core p s but) (who : ℕ) (b : OpenBehaviour) (r : ℕ)
    (phase : Phase) (is : at s who ≡ Some b) (stage : b.stage ≡ Recorded r phase) where
  pub keeps_ready : life_at (Recorded r phase) ≡ Pending → ((cs : List ℕ) → flagged_at (Recorded r phase) cs ≡ cs)
      → ready_row_at (Recorded r phase) ≡ None
      → ((v : ℕ) → but v → v ≡ who) → all_granted (at s) (queue s) who ≡ true → Core p (made_ready s who b r) nobody
  keeps_ready pending all_flagged not_ready only granted =
      let t = made_ready s who b r in
      let b' : OpenBehaviour = record b { stage = Recorded r Ready } in
      let other : OthersStay (at s) (at t) who = put_others s who (Some b') in
      let is' : at t who ≡ Some b' = put_here s who b (Some b') is in
      let row : row_of (at s who) ≡ Some r = ap row_of is ∙ ap row_at stage in
      let was_pending : life (at s who) ≡ Pending = ap life is ∙ ap life_at stage ∙ pending in
      let cowns : cowns_of (at t who) ≡ cowns_of (at s who) = ap cowns_of is' ∙ sym (ap cowns_of is) in
      let asks_same : asks (Some b') ≡ asks (Some b) = sym (ap asks_at stage) in
      let stood_all : standing (at s who) ≡ b.cowns =
      stands_for_all (at s who) r row (λ e. let f : Pending ≡ Ended = sym was_pending ∙ e in cc) ∙ ap cowns_of is in
      let was_not : ready_row (at s who) ≡ None = ap ready_row is ∙ ap ready_row_at stage ∙ not_ready in
      let absent : times r s.ready ≡ 0 = none_ready p s but k who r row was_not in
      core_put p s but k who b (Some b') is s.log s.queues t.ready nobody k.run refl refl asks_same (λ c h. h)
      (relabel (at s) (at t) (queue s) who k.laws other
      (λ d. ap (times d) (ap standing is' ∙ sym stood_all))
      cowns
      (λ d ahead behind x f h. k.laws.linked d ahead behind x who f
      (subst (λ (cs : List ℕ). 0 < times d cs)
      (ap settled is' ∙ sym (ap settled is ∙ ap (λ z. settled_at z b.cowns) stage)) h))
      (λ d h. subst (λ (cs : List ℕ). 0 < times d cs)
      (ap flagged is ∙ ap (λ z. flagged_at z b.cowns) stage ∙ all_flagged b.cowns ∙ sym (ap flagged is')) h)
      (ordered_kept (at s) (at t) (queue s) who k.laws other (ap row_of is' ∙ sym row))
      (λ d h f. granted_first (at s) (queue s) who granted d
      (subst (λ (cs : List ℕ). 0 < times d cs) (stood_all ∙ sym (ap cowns_of is)) f)))
      (λ v h n. elim (same_or_not v who) [
        | inl e ↦ absurd (let f : false ≡ true = sym (ap waits is') ∙ sym (ap (λ z. waits (at t z)) e) ∙ h in cc)
        | inr ne ↦ waits_kept (at s) (at t) (queue s) (queue s) who but but k.waiting other (λ u f. f)
            (λ u c m f. refl) (λ g. absurd (let f : false ≡ true = sym (ap waits is') ∙ g in cc)) v h
            (λ f. ne (only v f))
      ])
      (fits_on p (members p s) (at s) (at t) who k.fits other (goes_on_at b (Recorded r phase) (Recorded r Ready)
      (at s who) (at t who) is stage is' refl (sym pending) (λ h. h)
      (λ h. absurd (let f : false ≡ true = h in cc))))
      (λ v. at_each (λ u z. (row : ℕ) → ready_row z ≡ Some row → times row (s.ready ++ (r ∷ [])) ≡ 1)
      (at s) (at t) who other
      (λ q h.
      let same : r ≡ q = (let f : Some r ≡ Some q = sym (ap ready_row is') ∙ h in cc) in
      omega (
        arith,
        ap (λ z. times z (s.ready ++ (r ∷ []))) (sym same),
        times-append r s.ready (r ∷ []),
        times-here r [],
        absent,
      ))
      (λ u n q h.
      let differ : r ≢ q = λ e. n (k.fits.one_row u who q (ready_has_row (at s u) q h)
      (row ∙ ap (λ z. Some z) e)) in
      omega (arith, times-append q s.ready (r ∷ []), times-other q r [] differ, k.ready_once u q h)) v)
      (λ q h. elim (same_or_not r q) [
        | inl e ↦ (who, ap ready_row is' ∙ ap (λ z. Some z) e)
        | inr n ↦
            let o = k.ready_only q (omega (arith, h, times-append q s.ready (r ∷ []), times-other q r [] n)) in
            let differ : o.0 ≢ who = λ e. let f : None ≡ Some q = sym was_not ∙ ap (λ z. ready_row (at s z)) (sym e)
            ∙ o.1 in cc in
            (o.0, ap ready_row (other o.0 differ) ∙ o.1)
      ])

-- ---- Start and Finish: the row changes beside it

module _ (p : Program) (s : State) (k : Core p s nobody) (who : ℕ) (b : OpenBehaviour) (r : ℕ) (phase next : Phase)
    (is : at s who ≡ Some b) (stage : b.stage ≡ Recorded r phase) (event : Event) (g : Member → Member) where
  abbrev held_on : List ℕ → State
  held_on ready = with_ready (noted (with_stage s who b (Recorded r next)) event) ready

  -- one that holds its cowns goes on to a phase in which they are its own as before, and its row changes with it
  keeps_held : (ready : List ℕ) → MayHappen p (config_of p s.log) event
      → (config_after p (config_of p s.log) event).members ≡ changed (members p s) r g (slice_get (members p s) r)
      → HasNoEnqueue s r
      → standing_at (Recorded r next) b.cowns ≡ standing_at (Recorded r phase) b.cowns
      → settled_at (Recorded r next) b.cowns ≡ settled_at (Recorded r phase) b.cowns
      → flagged_at (Recorded r phase) b.cowns ≡ flagged_at (Recorded r next) b.cowns
      → holds_at (Recorded r phase) ≡ true → waits_at (Recorded r next) ≡ false
      → enqueues_at (Recorded r next) ≡ enqueues_at (Recorded r phase)
      → ((m : Member) → (g m).life ≡ life_at (Recorded r next)) → ((m : Member) → (g m).behaviour ≡ m.behaviour)
      → ((w row : ℕ) → ready_row (at (held_on ready) w) ≡ Some row → times row ready ≡ 1)
      → ((row : ℕ) → 0 < times row ready → (w : ℕ) × (ready_row (at (held_on ready) w) ≡ Some row))
      → Core p (held_on ready) nobody
  keeps_held ready may rows childless stand settle flag holding waits_not enqueues_same life_is behaviour_kept once only =
      let t = held_on ready in
      let b' : OpenBehaviour = record b { stage = Recorded r next } in
      let other : OthersStay (at s) (at t) who = put_others s who (Some b') in
      let is' : at t who ≡ Some b' = put_here s who b (Some b') is in
      let row : row_of (at s who) ≡ Some r = ap row_of is ∙ ap row_at stage in
      let cowns : cowns_of (at t who) ≡ cowns_of (at s who) = ap cowns_of is' ∙ sym (ap cowns_of is) in
      let rows_now : members p t ≡ changed (members p s) r g (slice_get (members p s) r) =
      ap (λ (c : Config). c.members) (config_more p (opening p) s.log event) ∙ rows in
      core_put p s nobody k who b (Some b') is t.log s.queues ready nobody
      (run_more p (opening p) s.log event k.run may)
      (ap length rows_now ∙ length-changed (members p s) r g (slice_get (members p s) r)) refl
      (sym (ap asks_at stage)) (λ c h. h)
      (relabel (at s) (at t) (queue s) who k.laws other
      (λ d. ap (times d) (ap standing is' ∙ stand ∙ sym (ap standing is ∙ ap (λ z. standing_at z b.cowns) stage)))
      cowns
      (λ d ahead behind x f h. k.laws.linked d ahead behind x who f
      (subst (λ (cs : List ℕ). 0 < times d cs)
      (ap settled is' ∙ settle ∙ sym (ap settled is ∙ ap (λ z. settled_at z b.cowns) stage)) h))
      (λ d h. subst (λ (cs : List ℕ). 0 < times d cs)
      (ap flagged is ∙ ap (λ z. flagged_at z b.cowns) stage ∙ flag ∙ sym (ap flagged is')) h)
      (ordered_kept (at s) (at t) (queue s) who k.laws other (ap row_of is' ∙ sym row))
      (λ d h. k.laws.first who d (ap holds is ∙ ap holds_at stage ∙ holding)))
      (waits_on (at s) (at t) (queue s) who nobody k.waiting other (ap waits is' ∙ waits_not))
      (subst (λ (rows : List Member). Fits p rows (at t)) (sym rows_now)
      (fits_row p (members p s) (at s) (at t) who r g k.fits other row (record {
        row = ap row_of is' ∙ sym row;
        cowns = cowns;
        parent = ap parent_of is' ∙ sym (ap parent_of is);
        offset = ap offset_of is' ∙ sym (ap offset_of is);
        asks_same = ap asks is' ∙ sym (ap asks is ∙ ap asks_at stage);
        enqueues_same = ap enqueues is' ∙ enqueues_same ∙ sym (ap enqueues is ∙ ap enqueues_at stage);
        life_is = λ m. life_is m ∙ sym (ap life is');
        behaviour_kept = behaviour_kept;
      }) childless))
      once only

-- ---- Start

module _ (p : Program) (s : State) (k : Core p s nobody) (who : ℕ) (b : OpenBehaviour) (r : ℕ) (rest : List ℕ)
    (is : at s who ≡ Some b) (stage : b.stage ≡ Recorded r Ready) (head : s.ready ≡ r ∷ rest) where
  abbrev pub after_start : State
  after_start = with_ready (noted (with_stage s who b (Recorded r phases.Running)) (events.Start r)) rest

  row_is : row_of (at s who) ≡ Some r
  row_is = ap row_of is ∙ ap row_at stage

  was_pending : life (at s who) ≡ Pending
  was_pending = ap life is ∙ ap life_at stage

  pub start_may : MayHappen p (config_of p s.log) (events.Start r)
  start_may = may_start p (members p s) (at s) (queue s) k.laws k.fits who r row_is
      (ap holds is ∙ ap holds_at stage) was_pending

  pub keeps_start : Core p after_start nobody
  keeps_start =
      let t = after_start in
      let b' : OpenBehaviour = record b { stage = Recorded r phases.Running } in
      let other : OthersStay (at s) (at t) who = put_others s who (Some b') in
      let is' : at t who ≡ Some b' = put_here s who b (Some b') is in
      let once : times r s.ready ≡ 1 = k.ready_once who r (ap ready_row is ∙ ap ready_row_at stage) in
      let none_left : times r rest ≡ 0 = omega (arith, once, ap (times r) head, times-here r rest) in
      keeps_held p s k who b r Ready phases.Running is stage (events.Start r) (started_on (values p s)) rest start_may
      refl
      -- its row is pending, and parents run
      (λ v h q. let f : Some Running ≡ Some Pending = sym (k.fits.parents v h) ∙ ap (state_of (members p s)) q
      ∙ start_may.waits in cc)
      refl refl refl refl refl refl (λ m. refl) (λ m. refl)
      (λ v. at_each (λ u z. (q : ℕ) → ready_row z ≡ Some q → times q rest ≡ 1) (at s) (at t) who other
      (λ q h. absurd (let f : None ≡ Some q = sym (ap ready_row is') ∙ h in cc))
      (λ u n q h.
      let differ : r ≢ q = λ e. n (k.fits.one_row u who q (ready_has_row (at s u) q h)
      (row_is ∙ ap (λ z. Some z) e)) in
      omega (arith, sym (times-other q r rest differ), ap (times q) head, k.ready_once u q h)) v)
      (λ q h.
      let differ : r ≢ q = λ e. let f : times q rest ≡ 0 = ap (λ z. times z rest) (sym e)
      ∙ none_left in omega arith in
      let o = k.ready_only q (omega (arith, h, times-other q r rest differ, ap (times q) head)) in
      let apart : o.0 ≢ who = λ e. let f : Some r ≡ Some q = sym (ap ready_row is ∙ ap ready_row_at stage)
      ∙ ap (λ z. ready_row (at s z)) (sym e) ∙ o.1 in differ (let g : r ≡ q = cc in g) in
      (o.0, ap ready_row (other o.0 apart) ∙ o.1))

-- ---- Finish

module _ (p : Program) (s : State) (k : Core p s nobody) (who : ℕ) (b : OpenBehaviour) (r ticks : ℕ)
    (status : EndStatus) (written : List ℕ)
    (is : at s who ≡ Some b) (stage : b.stage ≡ Recorded r phases.Running) (none_open : HasNoEnqueue s r)
    (may : CanEnd p (members p s) r ticks status written) where
  abbrev pub the_end : Event
  the_end = events.End r ticks status (record { items = written })

  -- it leaves from its first request on
  abbrev pub after_end : State
  after_end = with_stage (noted s the_end) who b (Recorded r (Leaving 0))

  pub keeps_end : Core p after_end nobody
  keeps_end =
      let b' : OpenBehaviour = record b { stage = Recorded r (Leaving 0) } in
      let ready_same : ready_row (Some b') ≡ ready_row (Some b) = sym (ap ready_row_at stage) in
      keeps_held p s k who b r phases.Running (Leaving 0) is stage the_end (λ m. record m { life = Ended }) s.ready may
      refl none_open refl refl refl refl refl refl (λ m. refl) (λ m. refl)
      (once_kept p s nobody k who b (Some b') is ready_same) (only_kept p s nobody k who b (Some b') is ready_same)

-- ---- releases

pub dropped_here : (cs : List ℕ) (i c : ℕ) → slice_get cs i ≡ Some c → times c (drop (suc i) cs) + 1 ≡ times c (drop i cs)
dropped_here [] i c e = absurd (let f : None ≡ Some c = e in cc)
dropped_here (d ∷ cs) zero c e =
    let is : d ≡ c = (let f : Some d ≡ Some c = e in cc) in
    omega (arith, ap (λ z. times c (z ∷ cs)) is, times-here c cs)
dropped_here (d ∷ cs) (suc i) c e = dropped_here cs i c e

dropped_there : (cs : List ℕ) (i c d : ℕ) → slice_get cs i ≡ Some c → d ≢ c
    → times d (drop (suc i) cs) ≡ times d (drop i cs)
dropped_there [] i c d e n = absurd (let f : None ≡ Some c = e in cc)
dropped_there (x ∷ cs) zero c d e n =
    let is : x ≡ c = (let f : Some x ≡ Some c = e in cc) in
    sym (times-other d x cs (λ h. n (sym h ∙ is)))
dropped_there (x ∷ cs) (suc i) c d e n = dropped_there cs i c d e n

-- the request comes off the front, and whoever is first then may be due to be woken
module _ (p : Program) (s : State) (k : Core p s nobody) (who : ℕ) (b : OpenBehaviour) (r i c : ℕ) (rest : List ℕ)
    (due : IsDue s who b (Recorded r (Leaving i)) i c) (front : queue s c ≡ who ∷ rest) where
  abbrev pub after_release : State
  after_release = with_stage (with_queue s c rest) who b (Recorded r (Leaving (suc i)))

  pub keeps_release : Core p after_release (λ v. is_first v rest ≡ true)
  keeps_release =
      let t = after_release in
      let b' : OpenBehaviour = record b { stage = Recorded r (Leaving (suc i)) } in
      let other : OthersStay (at s) (at t) who = put_others s who (Some b') in
      let is' : at t who ≡ Some b' = put_here s who b (Some b') due.is in
      let row : row_of (at s who) ≡ Some r = ap row_of due.is ∙ ap row_at due.stage_is in
      let small : c < length s.queues = k.in_range who c
      (subst (λ (z : Option OpenBehaviour). 0 < times c (cowns_of z)) (sym due.is) (among b.cowns i c due.cown)) in
      let stand : standing (at s who) ≡ drop i b.cowns = ap standing due.is
      ∙ ap (λ z. standing_at z b.cowns) due.stage_is in
      let stand' : standing (at t who) ≡ drop (suc i) b.cowns = ap standing is' in
      let cowns : cowns_of (at t who) ≡ cowns_of (at s who) = ap cowns_of is' ∙ sym (ap cowns_of due.is) in
      let asks_same : asks (Some b') ≡ asks (Some b) = sym (ap asks_at due.stage_is) in
      let ready_same : ready_row (Some b') ≡ ready_row (Some b) = sym (ap ready_row_at due.stage_is) in
      let set_here : queue t c ≡ rest = get_or-set_same s.queues c rest [] small in
      let shorter : queue s c ≡ who ∷ queue t c = front ∙ ap (λ zs. who ∷ zs) (sym set_here) in
      let elsewhere : (d : ℕ) → d ≢ c → queue t d ≡ queue s d = λ d n. get_or-set_other s.queues c d rest [] n in
      let long : length t.queues ≡ length s.queues = length-set s.queues c rest in
      core_on p s nobody k who b (Some b') due.is t.queues (λ v. is_first v rest ≡ true) long asks_same ready_same
      (λ d h. h)
      (release (at s) (at t) (queue s) (queue t) who c k.laws (record {
        shorter = shorter;
        here = ap (λ cs. times c cs + 1) stand' ∙ dropped_here b.cowns i c due.cown ∙ ap (times c) (sym stand);
        moves = record {
          other = other;
          elsewhere = elsewhere;
          there = λ d n. ap (times d) stand' ∙ dropped_there b.cowns i c d due.cown n ∙ ap (times d) (sym stand);
          cowns = cowns;
          settled_same = ap settled is' ∙ sym (ap settled due.is ∙ ap (λ z. settled_at z b.cowns) due.stage_is);
          flagged_same = ap flagged is' ∙ sym (ap flagged due.is ∙ ap (λ z. flagged_at z b.cowns) due.stage_is);
          row_same = ap row_of is' ∙ sym row;
        };
        held = ap holds due.is ∙ ap holds_at due.stage_is;
      }))
      (λ v h n. waits_release (at s) (at t) (queue s) (queue t) who c k.waiting other shorter elsewhere
      (ap waits is') v h (λ f. n (ap (is_first v) (sym set_here) ∙ f)))
      (fits_on p (members p s) (at s) (at t) who k.fits other (goes_on_at b (Recorded r (Leaving i))
      (Recorded r (Leaving (suc i))) (at s who) (at t who) due.is due.stage_is is' refl refl (λ h. h) (λ h. h)))

-- who has released all goes
module _ (p : Program) (s : State) (but : ℕ → Type 0) (k : Core p s but) (who : ℕ) (b : OpenBehaviour) (r i : ℕ)
    (is : at s who ≡ Some b) (stage : b.stage ≡ Recorded r (Leaving i)) (all : length b.cowns ≤ i) where
  pub keeps_gone : Core p (with_behaviour s who None) but
  keeps_gone =
      let t = with_behaviour s who None in
      let other : OthersStay (at s) (at t) who = put_others s who None in
      let none : at t who ≡ None = put_here s who b None is in
      let nothing : standing (at s who) ≡ [] = ap standing is ∙ ap (λ z. standing_at z b.cowns) stage
      ∙ drop_all i b.cowns all in
      let asks_same : asks None ≡ asks (Some b) = sym (ap asks_at stage) in
      let ready_same : ready_row None ≡ ready_row (Some b) = sym (ap ready_row_at stage) in
      core_on p s but k who b None is s.queues but refl asks_same ready_same (λ c h. absurd (omega (arith, h)))
      (nowhere (at s) (at t) (queue s) who k.laws other (λ c. ap (times c) nothing)
      (λ c. ap (λ z. times c (standing z)) none) (λ c. omega (arith, ap (λ z. times c (cowns_of z)) none)))
      (waits_on (at s) (at t) (queue s) who but k.waiting other (ap waits none))
      (fits_gone p (members p s) (at s) (at t) who r k.fits other (ap row_of is ∙ ap row_at stage)
      (ap life is ∙ ap life_at stage) none)

-- ---- who leaves is first

first_item : (xs : List ℕ) (x : ℕ) → slice_get xs 0 ≡ Some x → (rest : List ℕ) × (xs ≡ x ∷ rest)
first_item [] x e = absurd (let f : None ≡ Some x = e in cc)
first_item (y ∷ xs) x e = (xs, let f : Some y ≡ Some x = e in let same : y ≡ x = cc in ap (λ z. z ∷ xs) same)

-- the next request that a behaviour leaves is first in its cown's list
pub front_of_leaving : (p : Program) (s : State) (who : ℕ) (b : OpenBehaviour) (row i c : ℕ) → Core p s nobody
    → IsDue s who b (Recorded row (Leaving i)) i c → (rest : List ℕ) × (queue s c ≡ who ∷ rest)
front_of_leaving p s who b row i c k due =
    let stands : standing (at s who) ≡ drop i b.cowns = ap standing due.is ∙ ap (λ z. standing_at z b.cowns) due.stage_is in
    let there : 0 < times c (standing (at s who)) = omega (arith, ap (times c) stands, dropped_here b.cowns i c due.cown) in
    first_item (queue s c) who (k.laws.first who c (ap holds due.is ∙ ap holds_at due.stage_is) there)
