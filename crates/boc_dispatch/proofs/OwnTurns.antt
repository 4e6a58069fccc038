-- What a worker has in hand after its own turn fits the dispatcher.
use Rattle.std.proofs.Common.{◌≡◌, ◌≢◌, ℕ, suc, ◌+◌, inl, inr, true, false, cond, List, [], ◌∷◌, ◌++◌, length, refl, sym, ◌∙◌, ap, subst, arith, rules}
use Rattle.std.specs.Prelude.{nat_lt, slice_get, Option, Some, None, Ok}
use Rattle.std.specs.Option.{option_map}
use Rattle.boc_program.specs.declared.program.Program.{Program}
use Rattle.boc_runs.specs.declared.event.Event.TheVariants as events
use Rattle.boc_runs.specs.declared.stage.Phase.TheVariants as phases
use Rattle.boc_runs.specs.declared.stage.Phase.TheVariants.{Flagging, Owning, Waiting, Ready, Leaving}
use Rattle.boc_runs.specs.declared.stage.Stage.{Stage}
use Rattle.boc_runs.specs.declared.stage.Stage.TheVariants.{Asking, Recorded}
use Rattle.boc_runs.specs.declared.step.Step.{Step}
use Rattle.boc_runs.specs.declared.step.Step.TheVariants as steps
use Rattle.boc_program.specs.Meaning.{Wish}
use Rattle.boc_program.specs.Changed.{changed}
use Rattle.boc_runs.specs.Lives.{Pending, Running}
use Rattle.boc_runs.specs.Serial.{Behaviour, behaviour_of}
use Rattle.boc_runs.specs.Run.{Member, config_of, next_wish, started_on, state_of, waiting, members_after_spawn}
use Rattle.boc_runs.specs.machine.Stages.{OpenBehaviour, parent_of, enqueues, enqueues_at, asks, asks_at}
use Rattle.boc_runs.specs.machine.Queues.{all_granted}
use Rattle.boc_runs.specs.machine.Steps.{State, at, queue, members, values, opened, noted, with_behaviour, with_stage, with_queue, with_new, with_spawn}
use Rattle.boc_runs.specs.machine.Steps.{asking_on, leaving_on, flagging, made_ready, owned, woken, woken_if, woken_at, child, stepped, HasNoEnqueue, Advances}
use Rattle.boc_runs.specs.machine.Steps.{Opens, Owns, Leaves, Starts}
use Rattle.boc_runs.specs.machine.Sound.{IsSound}
use Rattle.boc_runs.specs.machine.Turns.{IsEnqueueOf}
use Rattle.boc_program.proofs.ChangedItems.{front_item, place_below, length-changed}
use Rattle.boc_eval.specs.Frames.{UnderWay as Framed, Ran}
use Rattle.boc_machine_laws.proofs.Lists.{same_or_not, read_pushed}
use Rattle.boc_machine_laws.proofs.Rows.{after_spawn, changed_same, life_there, with_one_more}
use Rattle.boc_machine_laws.proofs.Core.{put_here, put_others}
use Rattle.boc_machine_laws.proofs.Counting.{by_test}
use Rattle.boc_dispatch.specs.declared.calls.Advanced.TheVariants as advanced
use Rattle.boc_dispatch.specs.declared.calls.Child.{Child}
use Rattle.boc_dispatch.specs.declared.calls.Job.{Job}
use Rattle.boc_dispatch.specs.declared.calls.Leaving.{Leaving as Token}
use Rattle.boc_dispatch.specs.declared.calls.Left.TheVariants as left
use Rattle.boc_dispatch.specs.declared.calls.Started.TheVariants as started
use Rattle.boc_dispatch.specs.declared.worker.Hand.{Hand}
use Rattle.boc_dispatch.specs.declared.worker.Due.TheVariants as dues
use Rattle.boc_dispatch.specs.declared.worker.Hand.TheVariants as hands
use Rattle.boc_dispatch.specs.Underway.{Underway}
use Rattle.boc_dispatch.specs.Calls.{in_state, Begins, BeginsFrame, OpensWish, AdvancesChild, FinishesRow, LeavesCown, IsHandedOut, IsLeaving}
use Rattle.boc_dispatch.specs.Driving.{IsFrameOf, IsWishing, IsEnqueuing, HandFits}
use Rattle.boc_dispatch.proofs.Elsewhere.{logged, same_woken}
use Rattle.boc_dispatch.proofs.Hands.{same_member, starting_waits, releases_on}
use Rattle.boc_machine_laws.proofs.Members.{all_fit}

-- ---- a start

-- a row that just started has spawned nothing, and has no open enqueue
module _ (u : Underway) (sound : IsSound u.program u.state) (who row : ℕ) (t : State) (m : Starts u.state who row t) where
  abbrev s : State
  s = u.state

  abbrev b' : OpenBehaviour
  b' = record m.this { stage = Recorded row phases.Running }

  abbrev v : State
  v = with_behaviour s who (Some b')

  none_open_at_start : HasNoEnqueue v row
  none_open_at_start w enqueued parent =
      let waits = starting_waits u.program s who row t sound m in
      elim (same_or_not w who) [
        | inl e ↦
            let over : enqueues (at v w) ≡ false = ap (λ z. enqueues (at v z)) e ∙ ap enqueues (put_here s who m.this (Some b') m.is) in
            let f : false ≡ true = sym over ∙ enqueued in absurd cc
        | inr n ↦
            let there = put_others s who (Some b') w n in
            let runs = sound.fits.parents w (sym (ap enqueues there) ∙ enqueued) in
            let of_row : parent_of (at s w) ≡ row = sym (ap parent_of there) ∙ parent in
            let f : Some Pending ≡ Some Running = ap (λ l. Some l) (sym waits.2) ∙ sym (life_there (members u.program s) row waits.0 waits.1)
            ∙ ap (state_of (members u.program s)) (sym of_row) ∙ runs in absurd cc
      ]

  spawned_at_start : (x : Member) → slice_get (members u.program t) row ≡ Some x → x.spawned ≡ 0
  spawned_at_start x is =
      let waits = starting_waits u.program s who row t sound m in
      let started : members u.program t ≡ changed (members u.program s) row (started_on (values u.program s)) (slice_get (members u.program s) row) =
      ap (members u.program) m.gives ∙ logged u.program v (events.Start row) in
      let same : Some x ≡ Some (started_on (values u.program s) waits.0) = sym is ∙ ap (λ ms. slice_get ms row) started
      ∙ changed_same (members u.program s) row (started_on (values u.program s)) ∙ ap (option_map (started_on (values u.program s))) waits.1 in
      let one : x ≡ started_on (values u.program s) waits.0 = cc in
      ap (λ z. z.spawned) one ∙ (all_fit u.program s.log sound.run row waits.0 waits.1).fresh waits.2

  started_fits : (job : Job) → job.row ≡ row → IsHandedOut (in_state u t) job.row job.body job.args.items job.inputs.items
      → HandFits (in_state u t) (hands.Started job)
  started_fits job is h =
      let there : slice_get (members u.program t) row ≡ Some h.member = ap (slice_get (members u.program t)) (sym is) ∙ h.is in
      record {
        handed = h;
        spawned = record {
          none_open = subst (HasNoEnqueue t) (sym is) (subst (λ (z : State). HasNoEnqueue z row) (sym m.gives) none_open_at_start);
          member = h.member;
          is = h.is;
          all = sym (spawned_at_start h.member there);
        };
      }

  frame_fits : (f : Framed) → IsHandedOut (in_state u t) row f.body f.args f.inputs → f.made ≡ 0 → HandFits (in_state u t) (hands.Framed row f dues.Going)
  frame_fits f h none =
      record {
        handed = h;
        spawned = record {
          none_open = subst (λ (z : State). HasNoEnqueue z row) (sym m.gives) none_open_at_start;
          member = h.member;
          is = h.is;
          all = none ∙ sym (spawned_at_start h.member h.is);
        };
      }

pub begins_frame_fits : (u v : Underway) (row : ℕ) (f : Framed) → IsSound u.program u.state → BeginsFrame u (Some (row, f)) v
    → HandFits v (hands.Framed row f dues.Going)
begins_frame_fits u v row f sound b =
    subst (λ (x : Underway). HandFits x (hands.Framed row f dues.Going)) (sym b.3)
    (frame_fits u sound b.0 row b.1 b.2 f (subst (λ (x : Underway). IsHandedOut x row f.body f.args f.inputs) b.3 b.4) b.5)

pub begins_fits : (u v : Underway) (job : Job) → IsSound u.program u.state → Begins u (started.Job job) v → HandFits v (hands.Started job)
begins_fits u v job sound b =
    subst (λ (x : Underway). HandFits x (hands.Started job)) (sym b.3)
    (started_fits u sound b.0 job.row b.1 b.2 job refl (subst (λ (x : Underway). IsHandedOut x job.row job.body job.args.items job.inputs.items) b.3 b.4))

-- ---- an enqueue goes on

-- the open enqueue of a row has gone on to ask for its next request, or its spawn is recorded, and nothing else of the row has changed
record HasAsked (p : Program) (t : State) (who row : ℕ) (m : Member) : Type 0 where
  member : Member
  is : slice_get (members p t) row ≡ Some member
  life_same : member.life ≡ m.life
  behaviour_same : member.behaviour ≡ m.behaviour
  inputs_same : member.inputs ≡ m.inputs
  came : m.spawned + 1 ≡ member.spawned + cond (asks (at t who)) 1 0
  enqueue : IsEnqueueOf t who row

-- one step more changes nothing of it
asked_stepped : (p : Program) (t : State) (who row : ℕ) (m : Member) → HasAsked p t who row m → HasAsked p (stepped t) who row m
asked_stepped p t who row m a = search rules

flagging_enqueues : (row request : ℕ) (cowns : List ℕ) → enqueues_at (Recorded row (flagging cowns request)) ≡ true
flagging_enqueues row request cowns =
    by_test (λ phase. enqueues_at (Recorded row phase) ≡ true) (nat_lt request (length cowns)) (Flagging request) Owning (λ h. refl) (λ h. refl)

has_asked : (p : Program) (s : State) (who row : ℕ) (b : OpenBehaviour) (request : ℕ) (m : Member) (w : Wish) → at s who ≡ Some b → b.parent ≡ row
    → slice_get (members p s) row ≡ Some m → next_wish p (Some m) ≡ Some w → HasAsked p (asking_on p s who b request) who row m
has_asked p s who row b request m w is parent there next =
    let rows = members p s in
    by_test (λ (t : State). HasAsked p t who row m) (nat_lt request (length b.cowns)) (with_stage s who b (Asking request false)) (with_spawn p s who b)
    (λ h.
    let b' : OpenBehaviour = record b { stage = Asking request false } in
    let here = put_here s who b (Some b') is in
    record {
      member = m;
      is = there;
      life_same = refl;
      behaviour_same = refl;
      inputs_same = refl;
      came = ap (λ z. m.spawned + cond (asks z) 1 0) (sym here);
      enqueue = record { is_open = ap enqueues here; parent = ap parent_of here ∙ parent };
    })
    (λ h.
    let n = length rows in
    let b' : OpenBehaviour = record b { stage = Recorded n (flagging b.cowns 0) } in
    let here = put_here s who b (Some b') is in
    let front = changed rows row with_one_more (slice_get rows row) in
    let low = place_below rows row m there in
    let grown : members p (with_spawn p s who b) ≡ front ++ waiting (behaviour_of w) ∷ [] =
    logged p (with_behaviour s who (Some b')) (events.Spawn n b.parent b.offset (record { items = b.cowns }))
    ∙ ap (λ r. members_after_spawn p rows r) parent
    ∙ after_spawn p rows row w (omega (arith, low)) (ap (next_wish p) there ∙ next) in
    record {
      member = with_one_more m;
      is = ap (λ ms. slice_get ms row) grown
          ∙ front_item front (waiting (behaviour_of w)) row (omega (arith, low, length-changed rows row with_one_more (slice_get rows row)))
          ∙ changed_same rows row with_one_more ∙ ap (option_map with_one_more) there;
      life_same = refl;
      behaviour_same = refl;
      inputs_same = refl;
      came = sym (ap (λ z. m.spawned + 1 + cond (asks z) 1 0) here ∙ (omega arith));
      enqueue = record { is_open = ap enqueues here ∙ flagging_enqueues n 0 b.cowns; parent = ap parent_of here ∙ parent };
    })

-- ---- an enqueue is open

module _ (u : Underway) (f : Framed) (who row : ℕ) where
  asked_fits : (t : State) (h : IsHandedOut u row f.body f.args f.inputs) → f.made ≡ h.member.spawned + 1 → HasAsked u.program t who row h.member
      → IsEnqueuing (in_state u t) f who row
  asked_fits t h came a = record {
    handed = record {
      member = a.member;
      is = a.is;
      runs = a.life_same ∙ h.runs;
      body_is = ap (λ (b : Behaviour). slice_get u.program.bodies b.kind) a.behaviour_same ∙ h.body_is;
      args_are = h.args_are ∙ ap (λ (b : Behaviour). b.args) (sym a.behaviour_same);
      inputs_are = h.inputs_are ∙ sym a.inputs_same;
    };
    enqueue = a.enqueue;
    came = came ∙ a.came;
  }

  opened_fits : (t : State) → IsWishing u row f → who ≡ opened u.state → Opens u.program u.state row t → IsEnqueuing (in_state u t) f who row
  opened_fits t h number m =
      let s = u.state in
      let b = child row m.wish in
      let n = h.may.next in
      let x = h.may.handed.member in
      let same = same_member u row n.member x n.is h.may.handed.is in
      let a = has_asked u.program (with_new s b) (opened s) row b 0 x m.wish (read_pushed s.behaviours (Some b)) refl h.may.handed.is
      (ap (next_wish u.program) (sym h.may.handed.is) ∙ m.may.next) in
      asked_fits t h.may.handed (n.next ∙ ap (λ (z : Member). z.spawned + 1) same)
      (subst (λ (z : State). HasAsked u.program z who row x) (sym m.gives)
      (subst (λ z. HasAsked u.program (stepped (asking_on u.program (with_new s b) (opened s) b 0)) z row x) (sym number)
      (asked_stepped u.program (asking_on u.program (with_new s b) (opened s) b 0) (opened s) row x a)))

  -- the same members, and the enqueue at another stage, at which it asks as before
  staged_fits : (t : State) (b : OpenBehaviour) (stage : Stage) → IsEnqueuing u f who row → at u.state who ≡ Some b → t.log ≡ u.state.log
      → at t who ≡ Some (record b { stage = stage }) → enqueues_at stage ≡ true → asks_at stage ≡ asks_at b.stage → IsEnqueuing (in_state u t) f who row
  staged_fits t b stage h is log here enqueued asking = record {
    handed = record {
      member = h.handed.member;
      is = ap (λ l. slice_get (config_of u.program l).members row) log ∙ h.handed.is;
      runs = h.handed.runs;
      body_is = h.handed.body_is;
      args_are = h.handed.args_are;
      inputs_are = h.handed.inputs_are;
    };
    enqueue = record { is_open = ap enqueues here ∙ enqueued; parent = ap parent_of here ∙ sym (ap parent_of is) ∙ h.enqueue.parent };
    came = h.came ∙ ap (λ x. h.handed.member.spawned + cond x 1 0) (ap asks is ∙ sym asking ∙ sym (ap asks here));
  }

  advanced_fits : (step : Step) (t : State) → IsSound u.program u.state → step ≢ steps.Own → IsEnqueuing u f who row → Advances u.program u.state who step t
      → IsEnqueuing (in_state u t) f who row
  advanced_fits (steps.Swap i) t sound other h m =
      let b' : OpenBehaviour = record m.this { stage = Asking i true } in
      staged_fits t m.this (Asking i true) h m.due.is (ap (λ z. z.log) m.gives)
      (ap (λ z. at z who) m.gives ∙ put_here u.state who m.this (Some b') m.due.is) refl (sym (ap asks_at m.due.stage_is))
  advanced_fits (steps.Settle i) t sound other h m =
      let s = u.state in
      let b = m.this in
      let x = h.handed.member in
      let asking : asks (at s who) ≡ true = ap asks m.due.is ∙ ap asks_at m.due.stage_is in
      let wished = sound.fits.asking who asking in
      let next : next_wish u.program (Some x) ≡ Some wished.wish =
      ap (next_wish u.program) (sym h.handed.is ∙ ap (slice_get (members u.program s)) (sym h.enqueue.parent)) ∙ wished.next in
      let a = has_asked u.program s who row b (suc i) x wished.wish m.due.is (sym (ap parent_of m.due.is) ∙ h.enqueue.parent) h.handed.is next in
      asked_fits t h.handed (h.came ∙ ap (λ z. x.spawned + cond z 1 0) asking)
      (subst (λ (z : State). HasAsked u.program z who row x) (sym m.gives) (asked_stepped u.program (asking_on u.program s who b (suc i)) who row x a))
  advanced_fits (steps.Flag i) t sound other h m =
      let stage : Stage = Recorded m.row (flagging m.this.cowns (suc i)) in
      let b' : OpenBehaviour = record m.this { stage = stage } in
      staged_fits t m.this stage h m.due.is (ap (λ z. z.log) m.gives)
      (ap (λ z. at z who) m.gives ∙ put_here u.state who m.this (Some b') m.due.is) (flagging_enqueues m.row (suc i) m.this.cowns)
      (sym (ap asks_at m.due.stage_is))
  advanced_fits steps.Own t sound other h m = absurd (other refl)
  advanced_fits _ t sound other h m = absurd m

  -- ---- it is over

  -- an enqueue that is over leaves its row none
  none_open_left : (b b' : OpenBehaviour) → IsSound u.program u.state → IsEnqueueOf u.state who row → at u.state who ≡ Some b → enqueues_at b'.stage ≡ false
      → HasNoEnqueue (with_behaviour u.state who (Some b')) row
  none_open_left b b' sound q is over w enqueued parent =
      let s = u.state in
      let v = with_behaviour s who (Some b') in
      elim (same_or_not w who) [
        | inl e ↦
            let ends : enqueues (at v w) ≡ false = ap (λ z. enqueues (at v z)) e ∙ ap enqueues (put_here s who b (Some b') is) ∙ over in
            let g : false ≡ true = sym ends ∙ enqueued in absurd cc
        | inr n ↦
            let there = put_others s who (Some b') w n in
            n (sound.fits.one_enqueue w who (sym (ap enqueues there) ∙ enqueued) q.is_open (sym (ap parent_of there) ∙ parent ∙ sym q.parent))
      ]

  owned_fits : (t : State) → IsSound u.program u.state → IsEnqueuing u f who row → Owns u.state who t → IsFrameOf (in_state u t) row f
  owned_fits t sound h m =
      let s = u.state in
      let b = m.this in
      let waits : OpenBehaviour = record b { stage = Recorded m.row Waiting } in
      let ready : OpenBehaviour = record b { stage = Recorded m.row Ready } in
      let none : HasNoEnqueue (owned s who b m.row) row =
      by_test (λ (z : State). HasNoEnqueue z row) (all_granted (at s) (queue s) who) (made_ready s who b m.row) (with_stage s who b (Recorded m.row Waiting))
      (λ g. none_open_left b ready sound h.enqueue m.is refl) (λ g. none_open_left b waits sound h.enqueue m.is refl) in
      let log : (owned s who b m.row).log ≡ s.log =
      by_test (λ (z : State). z.log ≡ s.log) (all_granted (at s) (queue s) who) (made_ready s who b m.row) (with_stage s who b (Recorded m.row Waiting))
      (λ g. refl) (λ g. refl) in
      let there : slice_get (members u.program t) row ≡ Some h.handed.member =
      ap (λ l. slice_get (config_of u.program l).members row) (ap (λ z. z.log) m.gives ∙ log) ∙ h.handed.is in
      let recorded : asks (at s who) ≡ false = ap asks m.is ∙ ap asks_at m.stage_is in
      let all : f.made ≡ h.handed.member.spawned + 0 = h.came ∙ ap (λ z. h.handed.member.spawned + cond z 1 0) recorded in
      record {
        handed = record {
          member = h.handed.member;
          is = there;
          runs = h.handed.runs;
          body_is = h.handed.body_is;
          args_are = h.handed.args_are;
          inputs_are = h.handed.inputs_are;
        };
        spawned = record {
          none_open = subst (λ (z : State). HasNoEnqueue z row) (sym m.gives) none;
          member = h.handed.member;
          is = there;
          all = omega (arith, all);
        };
      }

pub opens_fits : (u v : Underway) (row : ℕ) (f : Framed) (token : Child) → HandFits u (hands.Framed row f dues.Wishing) → OpensWish u f row (Ok token) v
    → HandFits v (hands.Framed row f (dues.Enqueuing token))
opens_fits u v row f token h o =
    subst (λ (x : Underway). HandFits x (hands.Framed row f (dues.Enqueuing token))) (sym o.5)
    (subst (λ r. IsEnqueuing (in_state u o.3) f token.number r) (sym o.2) (opened_fits u f token.number row o.3 h o.1 o.4))

pub advances_fits : (u v : Underway) (row : ℕ) (f : Framed) (token : Child) (step : Step) → IsSound u.program u.state
    → HandFits u (hands.Framed row f (dues.Enqueuing token)) → AdvancesChild u token (advanced.Moved step) v
    → HandFits v (hands.Framed row f (dues.Enqueuing token))
advances_fits u v row f token step sound h a =
    subst (λ (x : Underway). HandFits x (hands.Framed row f (dues.Enqueuing token))) (sym a.4)
    (advanced_fits u f token.number token.row step a.2 sound a.1 h a.3)

pub owns_fits : (u v : Underway) (row : ℕ) (f : Framed) (token : Child) → IsSound u.program u.state → HandFits u (hands.Framed row f (dues.Enqueuing token))
    → AdvancesChild u token advanced.Enqueued v → HandFits v (hands.Framed token.row f dues.Going)
owns_fits u v row f token sound h a =
    subst (λ (x : Underway). HandFits x (hands.Framed token.row f dues.Going)) (sym a.3) (owned_fits u f token.number token.row a.1 sound h a.2)

-- ---- a row releases its cowns

-- a behaviour that isn't gone is leaving
still_leaving : (s : State) (who row : ℕ) (b : OpenBehaviour) (request : ℕ) → at s who ≡ Some b → at (leaving_on s who b row request) who ≢ None
    → IsLeaving (leaving_on s who b row request) row
still_leaving s who row b request is =
    by_test (λ (t : State). at t who ≢ None → IsLeaving t row) (nat_lt request (length b.cowns)) (with_stage s who b (Recorded row (Leaving request)))
    (with_behaviour s who None)
    (λ h stays. record {
      who = who;
      request = request;
      parent = b.parent;
      offset = b.offset;
      cowns = b.cowns;
      is = put_here s who b (Some (record b { stage = Recorded row (Leaving request) })) is;
    })
    (λ h stays. absurd (stays (put_here s who b None is)))

stepped_leaving : (s : State) (row : ℕ) → IsLeaving s row → IsLeaving (stepped s) row
stepped_leaving s row l = record { who = l.who; request = l.request; parent = l.parent; offset = l.offset; cowns = l.cowns; is = l.is }

pub finishes_fits : (u v : Underway) (row : ℕ) (o : Ran) (token : Token) → FinishesRow u row o (Ok (Some token)) v → HandFits v (hands.Leaving token)
finishes_fits u v row o token f =
    let e = f.1 in
    let m = e.finishes in
    let s = noted u.state (events.End row m.ticks m.status (record { items = m.written })) in
    let stays = e.left token refl in
    let there : at (leaving_on s e.who m.this row 0) e.who ≢ None = λ n. stays.1 (ap (λ z. at z e.who) m.gives ∙ n) in
    let leaves = stepped_leaving (leaving_on s e.who m.this row 0) row (still_leaving s e.who row m.this 0 m.is there) in
    subst (λ (x : Underway). HandFits x (hands.Leaving token)) (sym e.same)
    (subst (IsLeaving e.state) (sym stays.0) (subst (λ (z : State). IsLeaving z row) (sym m.gives) leaves))

-- whoever is gone isn't woken
woken_stays : (s : State) (who next : ℕ) (b : OpenBehaviour) (stage : Stage) → at s who ≡ None → at s next ≡ Some b → at (woken_at s next b stage) who ≡ None
woken_stays s who next b (Recorded r Waiting) none is =
    let differ : who ≢ next = λ e. let f : None ≡ Some b = sym none ∙ ap (at s) e ∙ is in absurd cc in
    by_test (λ (z : State). at z who ≡ None) (all_granted (at s) (queue s) next) (made_ready s next b r) s
    (λ h. put_others s next (Some (record b { stage = Recorded r Ready })) who differ ∙ none) (λ h. none)
woken_stays s who next b _ none is = none

woken_if_stays : (s : State) (who next : ℕ) (o : Option OpenBehaviour) → at s who ≡ None → at s next ≡ o → at (woken_if s next o) who ≡ None
woken_if_stays s who next None none is = none
woken_if_stays s who next (Some b) none is = woken_stays s who next b b.stage none is

left_leaving : (p : Program) (s : State) (who row : ℕ) (step : Step) (t : State) → Leaves s who row step t → at t who ≢ None → IsLeaving t row
left_leaving p s who row (steps.Unhook i) t m stays =
    let v = with_queue s m.c [] in
    let w = leaving_on v who m.this row (suc i) in
    subst (λ (z : State). IsLeaving z row) (sym m.gives)
    (stepped_leaving w row (still_leaving v who row m.this (suc i) m.due.is (λ n. stays (ap (λ z. at z who) m.gives ∙ n))))
left_leaving p s who row (steps.Pass i) t m stays =
    let v = with_queue s m.c (m.next ∷ m.rest) in
    let w = leaving_on v who m.this row (suc i) in
    let leaves = still_leaving v who row m.this (suc i) m.due.is
    (λ n. stays (ap (λ z. at z who) m.gives ∙ woken_if_stays w who m.next (at w m.next) n refl)) in
    subst (λ (z : State). IsLeaving z row) (sym m.gives)
    (stepped_leaving (woken w m.next) row (releases_on (record { program = p; state = w }) (woken w m.next) row (same_woken p row w m.next) leaves))
left_leaving p s who row _ t m stays = absurd m

pub leaves_fits : (u v : Underway) (token : Token) (step : Step) → LeavesCown u token (left.Moved step) v → HandFits v (hands.Leaving token)
leaves_fits u v token step a =
    subst (λ (x : Underway). HandFits x (hands.Leaving token)) (sym a.4) (left_leaving u.program u.state a.0 token.row step a.1 a.2 a.3)

-- ---- nothing changed

pub stays_fits : (u v : Underway) (h : Hand) → v ≡ u → HandFits u h → HandFits v h
stays_fits u v h same fits = subst (λ (x : Underway). HandFits x h) (sym same) fits
