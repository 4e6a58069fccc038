-- The machine tried on a program whose rows may come in two orders: the turns of one list of choices, what they lead to, and
-- what isn't allowed.
use Rattle.std.proofs.Common.{◌≡◌, ◌≢◌, ℕ, zero, suc, ◌+◌, ◌<◌, List, [], ◌∷◌, ◌++◌, Some, None, Bool, true, false, not, cond, get_or, length, refl, sym, ◌∙◌}
use Rattle.std.proofs.Common.{ap, subst, pos, lit≤, take, IsTrue}
use Rattle.std.specs.Prelude.{Option, ◌&&◌, nat_eq, nat_lt, slice_get, slice_set}
use Rattle.boc_program.specs.declared.limits.TheConstants.{MOST_ROWS}
use Rattle.boc_program.specs.declared.body.Body.{Body}
use Rattle.boc_program.specs.declared.body.EndStatus.TheVariants.{Done}
use Rattle.boc_runs.specs.declared.event.Event.TheVariants.{Start, End}
use Rattle.boc_program.specs.declared.short.Input.{Input}
use Rattle.boc_runs.specs.declared.stage.Phase.TheVariants.{Flagging, Owning, Ready, Running, Leaving}
use Rattle.boc_runs.specs.declared.stage.Stage.{Stage}
use Rattle.boc_runs.specs.declared.stage.Stage.TheVariants.{Asking, Recorded}
use Rattle.boc_runs.specs.declared.step.Step.{Step}
use Rattle.boc_runs.specs.declared.step.Step.TheVariants as steps
use Rattle.boc_program.specs.Meaning.{Wish, meaning}
use Rattle.boc_runs.specs.Lives as lives
use Rattle.boc_runs.specs.Run.{Member, IsWholeRun, meaning_of, next_wish, state_of}
use Rattle.boc_runs.specs.machine.Stages.{OpenBehaviour, flagged, settled, enqueues, enqueues_at, parent_of}
use Rattle.boc_runs.specs.machine.Queues.{times}
use Rattle.boc_runs.specs.machine.Steps.{State, at, queue, values, members, recorded, unrecorded, opened, stepped, noted, with_stage, with_queue, with_new}
use Rattle.boc_runs.specs.machine.Steps.{with_ready, asking_on, leaving_on, flagging, owned, woken, child, Advances, IsDue, IsBlockedAsking, IsQuiet}
use Rattle.boc_runs.specs.machine.Steps.{HasNoEnqueue, IsFlaggedBefore}
use Rattle.boc_runs.specs.machine.AlongRows.{cowns_of_rows, steps_of_rows, serial_of_log}
use Rattle.boc_runs.specs.machine.Turns.{Begins, Advanced, WaitsToSettle, Opened, Finished, Left, Driven, opening_driven, unless_gone, TakesTurn, Turn, Turns}
use Rattle.boc_runs.specs.machine.Sound.{IsSound}
use Rattle.std.proofs.lemmas.Bool.{ltb-true}
use Rattle.boc_machine_laws.proofs.Lists.{and_true, same_numbers}
use Rattle.boc_machine_laws.proofs.Every.{opening_sound, whole_run}
use Rattle.boc_machine_laws.proofs.OneTurn.{turns_keep}
use Rattle.boc_machine_laws.proofs.examples.TwoOrders.{program, log, main_body, one_body, two_body, left_body}
use Rattle.boc_machine_laws.proofs.examples.TwoOrders.{right_body, main_at, left_at, right_at, one_at, two_at}
use Rattle.boc_machine_laws.proofs.examples.TwoOrders.{state_0, state_1, state_2, state_3, state_4, state_5}
use Rattle.boc_machine_laws.proofs.examples.TwoOrders.{state_6, state_7, state_8, state_9, state_10, state_11}
use Rattle.boc_machine_laws.proofs.examples.TwoOrders.{state_12}
use Rattle.boc_machine_laws.proofs.examples.TwoOrders.{state_13, state_14, state_15, state_16, state_17}
use Rattle.boc_machine_laws.proofs.examples.TwoOrders.{state_18, state_20, state_21, state_22, state_24, state_25}
use Rattle.boc_machine_laws.proofs.examples.TwoOrders.{state_26}
use Rattle.boc_machine_laws.proofs.examples.TwoOrders.{state_27, state_28, state_29, state_30, state_31}
use Rattle.boc_machine_laws.proofs.examples.TwoOrders.{state_32, state_33, state_34, state_35, state_36, state_37}
use Rattle.boc_machine_laws.proofs.examples.TwoOrders.{state_38}
use Rattle.boc_machine_laws.proofs.examples.TwoOrders.{state_39, state_40}

-- ---- tests by which conditions over all numbers are shown

-- no open enqueue is that of a row
abbrev is_none_open : List (Option OpenBehaviour) → ℕ → Bool
is_none_open [] row = true
is_none_open (b ∷ bs) row = not (enqueues b && nat_eq (parent_of b) row) && is_none_open bs row

not_both : (a b : Bool) → IsTrue (not (a && b)) → a ≡ true → b ≡ true → ⊥
not_both true true h d e = let f : false ≡ true = h in cc
not_both true false h d e = let f : false ≡ true = e in cc
not_both false b h d e = let f : false ≡ true = d in cc

none_in : (bs : List (Option OpenBehaviour)) (row : ℕ) → IsTrue (is_none_open bs row) → (who : ℕ)
    → enqueues (get_or bs who None) ≡ true → parent_of (get_or bs who None) ≢ row
none_in [] row h who e same = let f : false ≡ true = e in cc
none_in (b ∷ bs) row h zero e same =
    not_both (enqueues b) (nat_eq (parent_of b) row)
    (and_true (not (enqueues b && nat_eq (parent_of b) row)) (is_none_open bs row) h).0 e
    (same_numbers (parent_of b) row same)
none_in (b ∷ bs) row h (suc who) e same = none_in bs row
    (and_true (not (enqueues b && nat_eq (parent_of b) row)) (is_none_open bs row) h).1 who e same

none_open : (s : State) (row : ℕ) → IsTrue (is_none_open s.behaviours row) → HasNoEnqueue s row
none_open s row h who e same = none_in s.behaviours row h who e same

-- whoever stands right before a number passes a test
abbrev passes_before : (ℕ → Bool) → List ℕ → ℕ → Bool
passes_before test [] who = true
passes_before test (x ∷ []) who = true
passes_before test (x ∷ (y ∷ ys)) who = cond (nat_eq y who) (test x) true && passes_before test (y ∷ ys) who

passed_first : (test : ℕ → Bool) (x : ℕ) (ys : List ℕ) (who : ℕ) → IsTrue (passes_before test (x ∷ (who ∷ ys)) who)
    → test x ≡ true
passed_first test x ys who h =
    let both = and_true (cond (nat_eq who who) (test x) true) (passes_before test (who ∷ ys) who) h in
    ap (λ b. cond b (test x) true) (sym (same_numbers who who refl)) ∙ both.0

passed : (test : ℕ → Bool) (ahead behind : List ℕ) (before who : ℕ)
    → IsTrue (passes_before test (ahead ++ (before ∷ (who ∷ behind))) who) → test before ≡ true
passed test [] behind before who h = passed_first test before behind who h
passed test (x ∷ []) behind before who h = passed_first test before behind who
    (and_true (cond (nat_eq before who) (test x) true) (passes_before test (before ∷ (who ∷ behind)) who) h).1
passed test (x ∷ (y ∷ ahead)) behind before who h =
    passed test (y ∷ ahead) behind before who
    (and_true (cond (nat_eq y who) (test x) true)
    (passes_before test (y ∷ (ahead ++ (before ∷ (who ∷ behind)))) who) h).1

some_of : (n : ℕ) → nat_lt 0 n ≡ true → 0 < n
some_of n h = ltb-true 0 n h

free_in : (s : State) (c who : ℕ) → IsTrue (passes_before (λ x. nat_lt 0 (times c (flagged (at s x))))
    (queue s c) who) → IsFlaggedBefore s c who
free_in s c who h ahead behind before e =
    some_of (times c (flagged (at s before)))
    (passed (λ x. nat_lt 0 (times c (flagged (at s x)))) ahead behind before who
    (subst (λ q. IsTrue (passes_before (λ x. nat_lt 0 (times c (flagged (at s x)))) q who)) e h))

-- ---- the turns

abbrev left_wish : Wish
left_wish = record { offset = 2; kind = 3; args = []; cowns = 2 ∷ [] }

abbrev right_wish : Wish
right_wish = record { offset = 3; kind = 4; args = []; cowns = 3 ∷ [] }

abbrev one_wish : Wish
one_wish = record { offset = 2; kind = 1; args = []; cowns = 0 ∷ 1 ∷ [] }

abbrev two_wish : Wish
two_wish = record { offset = 2; kind = 2; args = []; cowns = 0 ∷ [] }

abbrev input : ℕ → ℕ → Input
input c n = record { cown = c; value = pos n }

-- a behaviour that runs, and has spawned so many wishes
abbrev ran : ℕ → List Input → List ℕ → ℕ → Member
ran kind inputs cowns wishes = record {
  behaviour = record { kind = kind; args = []; cowns = cowns };
  inputs =
      inputs;
  spawned = wishes;
  life = lives.Running;
}

abbrev driven_0 : Driven
driven_0 = record { state = state_0; serves = None ∷ None ∷ [] }

abbrev driven_18 : Driven
driven_18 = record { state = state_18; serves = Some 1 ∷ Some 2 ∷ [] }

abbrev driven_25 : Driven
driven_25 = record { state = state_25; serves = Some 1 ∷ Some 2 ∷ [] }

abbrev driven_40 : Driven
driven_40 = record { state = state_40; serves = None ∷ None ∷ [] }

-- ---- the kinds of turns

-- turns, one after the other
data Played : Driven → List ℕ → Driven → Type 0 where
  Over : {d : Driven} → Played d [] d
  Then : {d f : Driven} {worker : ℕ} {workers : List ℕ} (e : Driven) → Turn program d worker e → Played e workers f
      → Played d (worker ∷ workers) f

turns_of : {d e : Driven} {workers : List ℕ} → Played d workers e → Turns program d workers e
turns_of Over = refl
turns_of (Then e turn others) = (e, turn, turns_of others)

joined : (d e f : Driven) (xs ys : List ℕ) → Turns program d xs e → Turns program e ys f → Turns program d (xs ++ ys) f
joined d e f [] ys is others = subst (λ (z : Driven). Turns program z ys f) is others
joined d e f (x ∷ xs) ys turns others = (turns.0, turns.1, joined turns.0 e f xs ys turns.2 others)

-- where a turn leads to
abbrev then_at : Driven → State → ℕ → Option ℕ → Driven
then_at d t worker after = record { state = t; serves = slice_set d.serves worker after }

module _ {d : Driven} {worker : ℕ} where
  -- a worker that serves no row begins the first that is ready
  begins : (t : State) (who row : ℕ) (this : OpenBehaviour) (rest : List ℕ)
      → at d.state who ≡ Some this → this.stage ≡ Recorded row Ready → d.state.ready ≡ row ∷ rest
      → t ≡ stepped (with_ready (noted (with_stage d.state who this (Recorded row Running)) (Start row)) rest)
      → slice_get d.serves worker ≡ Some None → Turn program d worker (then_at d t worker (Some row))
  begins t who row this rest is stage head gives serving = record {
    before = None;
    after = Some row;
    is = serving;
    takes = Begins who row t (record { this = this; rest = rest; is = is; stage_is = stage; head = head; gives = gives });
    serves_are = refl;
  }

  -- one that serves a row takes what is due to it
  serves_on : (t : State) (row : ℕ) (after : Option ℕ) → TakesTurn program d.state (Some row) t after
      → slice_get d.serves worker ≡ Some (Some row) → Turn program d worker (then_at d t worker after)
  serves_on t row after takes serving =
      record { before = Some row; after = after; is = serving; takes = takes; serves_are = refl }

  opens_next : (t : State) (row : ℕ) (wish : Wish) → state_of (members program d.state) row ≡ Some lives.Running
      → IsTrue (is_none_open d.state.behaviours row)
      → next_wish program (slice_get (members program d.state) row) ≡ Some wish
      → recorded program d.state + unrecorded d.state < MOST_ROWS
      → t ≡ stepped (asking_on program (with_new d.state (child row wish)) (opened d.state) (child row wish) 0)
      → slice_get d.serves worker ≡ Some (Some row) → Turn program d worker (then_at d t worker (Some row))
  opens_next t row wish runs none next room gives = serves_on t row (Some row) (Opened row t (record {
    wish = wish;
    may = record { runs = runs; none_open = none_open d.state row none; next = next; room = room };
    gives = gives;
  }))

  -- the next step of an enqueue
  advances : (t : State) (who : ℕ) (this : OpenBehaviour) (stage : Stage) (step : Step) → at d.state who ≡ Some this
      → this.stage ≡ stage → enqueues_at stage ≡ true → Advances program d.state who step t
      → slice_get d.serves worker ≡ Some (Some this.parent)
      → Turn program d worker (then_at d t worker (Some this.parent))
  advances t who this stage step is stage_is enqueued makes = serves_on t this.parent (Some this.parent)
      (Advanced this.parent who step t
      (record { is_open = ap enqueues is ∙ ap enqueues_at stage_is ∙ enqueued; parent = ap parent_of is }) makes)

  swaps : (t : State) (who i c : ℕ) (this : OpenBehaviour) → at d.state who ≡ Some this → this.stage ≡ Asking i false
      → slice_get this.cowns i ≡ Some c
      → t ≡ stepped (with_queue (with_stage d.state who this (Asking i true)) c (queue d.state c ++ who ∷ []))
      → slice_get d.serves worker ≡ Some (Some this.parent)
      → Turn program d worker (then_at d t worker (Some this.parent))
  swaps t who i c this is stage cown gives = advances t who this (Asking i false) (steps.Swap i) is stage refl
      (record { this = this; c = c; due = record { is = is; stage_is = stage; cown = cown }; gives = gives })

  settles : (t : State) (who i c : ℕ) (this : OpenBehaviour) → at d.state who ≡ Some this → this.stage ≡ Asking i true
      → slice_get this.cowns i ≡ Some c
      → IsTrue (passes_before (λ x. nat_lt 0 (times c (flagged (at d.state x)))) (queue d.state c) who)
      → t ≡ stepped (asking_on program d.state who this (suc i)) → slice_get d.serves worker ≡ Some (Some this.parent)
      → Turn program d worker (then_at d t worker (Some this.parent))
  settles t who i c this is stage cown free gives =
      let due : IsDue d.state who this (Asking i true) i c = record { is = is; stage_is = stage; cown = cown } in
      advances t who this (Asking i true) (steps.Settle i) is stage refl
      (record { this = this; c = c; due = due; free = free_in d.state c who free; gives = gives })

  waits : (who : ℕ) (this : OpenBehaviour) → at d.state who ≡ Some this → enqueues_at this.stage ≡ true
      → IsBlockedAsking d.state who → slice_get d.serves worker ≡ Some (Some this.parent)
      → Turn program d worker (then_at d d.state worker (Some this.parent))
  waits who this is enqueued blocked = serves_on d.state this.parent (Some this.parent)
      (WaitsToSettle this.parent who (record { is_open = ap enqueues is ∙ enqueued; parent = ap parent_of is }) blocked)

  flags : (t : State) (who row i c : ℕ) (this : OpenBehaviour) → at d.state who ≡ Some this
      → this.stage ≡ Recorded row (Flagging i) → slice_get this.cowns i ≡ Some c
      → t ≡ stepped (with_stage d.state who this (Recorded row (flagging this.cowns (suc i))))
      → slice_get d.serves worker ≡ Some (Some this.parent)
      → Turn program d worker (then_at d t worker (Some this.parent))
  flags t who row i c this is stage cown gives =
      advances t who this (Recorded row (Flagging i)) (steps.Flag i) is stage refl
      (record { this = this; row = row; c = c; due = record { is = is; stage_is = stage; cown = cown }; gives = gives })

  owns : (t : State) (who row : ℕ) (this : OpenBehaviour) → at d.state who ≡ Some this
      → this.stage ≡ Recorded row Owning → t ≡ stepped (owned d.state who this row)
      → slice_get d.serves worker ≡ Some (Some this.parent)
      → Turn program d worker (then_at d t worker (Some this.parent))
  owns t who row this is stage gives = advances t who this (Recorded row Owning) steps.Own is stage refl
      (record { this = this; row = row; is = is; stage_is = stage; gives = gives })

  finishes : (t : State) (who row ticks : ℕ) (written : List ℕ) (this : OpenBehaviour) (member : Member) (body : Body)
      → at d.state who ≡ Some this → this.stage ≡ Recorded row Running → IsTrue (is_none_open d.state.behaviours row)
      → slice_get (members program d.state) row ≡ Some member → member.life ≡ lives.Running
      → meaning_of program member ≡ Some (meaning body [] member.inputs)
      → member.spawned ≡ length (meaning body [] member.inputs).wishes → ticks ≡ (meaning body [] member.inputs).ticks
      → Done ≡ (meaning body [] member.inputs).status → written ≡ (meaning body [] member.inputs).written
      → t ≡ stepped (leaving_on (noted d.state (End row ticks Done (record { items = written }))) who this row 0)
      → slice_get d.serves worker ≡ Some (Some row)
      → Turn program d worker (then_at d t worker (unless_gone row (at t who)))
  finishes t who row ticks written this member body is stage none there runs meant spawned ticks_are status writes gives =
      serves_on t row (unless_gone row (at t who)) (Finished row who t (record {
        this = this;
        ticks = ticks;
        status = Done;
        written = written;
        is = is;
        stage_is = stage;
        none_open = none_open d.state row none;
        may = record {
          member = member;
          is = there;
          runs = runs;
          means = meaning body [] member.inputs;
          meant = meant;
          all_spawned = spawned;
          ticks_are = ticks_are;
          status_is = status;
          written_is = writes;
        };
        gives = gives;
      }))

  unhooks : (t : State) (who row i c : ℕ) (this : OpenBehaviour) → at d.state who ≡ Some this
      → this.stage ≡ Recorded row (Leaving i) → slice_get this.cowns i ≡ Some c → queue d.state c ≡ who ∷ []
      → t ≡ stepped (leaving_on (with_queue d.state c []) who this row (suc i))
      → slice_get d.serves worker ≡ Some (Some row)
      → Turn program d worker (then_at d t worker (unless_gone row (at t who)))
  unhooks t who row i c this is stage cown alone gives =
      let due : IsDue d.state who this (Recorded row (Leaving i)) i c = record { is = is; stage_is = stage; cown = cown } in
      serves_on t row (unless_gone row (at t who))
      (Left row who (steps.Unhook i) t (record { this = this; c = c; due = due; alone = alone; gives = gives }))

  passes : (t : State) (who row i c next : ℕ) (rest : List ℕ) (this : OpenBehaviour) → at d.state who ≡ Some this
      → this.stage ≡ Recorded row (Leaving i) → slice_get this.cowns i ≡ Some c
      → queue d.state c ≡ who ∷ (next ∷ rest) → 0 < times c (settled (at d.state next))
      → t ≡ stepped (woken (leaving_on (with_queue d.state c (next ∷ rest)) who this row (suc i)) next)
      → slice_get d.serves worker ≡ Some (Some row)
      → Turn program d worker (then_at d t worker (unless_gone row (at t who)))
  passes t who row i c next rest this is stage cown front settled_next gives =
      serves_on t row (unless_gone row (at t who)) (Left row who (steps.Pass i) t (record {
        this = this;
        c = c;
        next = next;
        rest = rest;
        due = record { is = is; stage_is = stage; cown = cown };
        front = front;
        settled_next = settled_next;
        gives = gives;
      }))

-- the second behaviour on cown a waits for the first to be flagged
pub blocked_at : (s : State) → at s 4 ≡ Some (two_at (Asking 0 true)) → queue s 0 ≡ 3 ∷ (4 ∷ [])
    → times 0 (flagged (at s 3)) ≡ 0 → IsBlockedAsking s 4
blocked_at s is stands unflagged = record {
  this = two_at (Asking 0 true);
  request = 0;
  c = 0;
  due = record { is = is; stage_is = refl; cown = refl };
  ahead = [];
  before = 3;
  behind = [];
  stands = stands;
  unflagged = unflagged;
}

-- ---- what they lead to

abbrev first_choices : List ℕ
first_choices = 0 ∷ 0 ∷ 0 ∷ 0 ∷ 0 ∷ 0 ∷ 0 ∷ 0 ∷ 0 ∷ 0 ∷ 0 ∷ 0 ∷ 0 ∷ 1 ∷ 0 ∷ 0 ∷ 1 ∷ 1 ∷ 1 ∷ 0 ∷ 0 ∷ 0 ∷ 1 ∷ 0 ∷ 1 ∷ []

-- the choices begin in the opening state
opens : driven_0 ≡ opening_driven program 2
opens = refl

-- eighteen choices
turns_to_18 : Turns program driven_0 (take 18 first_choices) driven_18
turns_to_18 = turns_of {d = driven_0} {e = driven_18} {workers = take 18 first_choices}
    (Then _ (begins state_1 0 0 (main_at (Recorded 0 Ready)) [] refl refl refl refl refl)
    (Then _ (opens_next state_2 0 left_wish refl refl refl (lit≤ tt) refl refl)
    (Then _ (swaps state_3 1 0 2 (left_at (Asking 0 false)) refl refl refl refl refl)
    (Then _ (settles state_4 1 0 2 (left_at (Asking 0 true)) refl refl refl refl refl refl)
    (Then _ (flags state_5 1 1 0 2 (left_at (Recorded 1 (Flagging 0))) refl refl refl refl refl)
    (Then _ (owns state_6 1 1 (left_at (Recorded 1 Owning)) refl refl refl refl)
    (Then _ (opens_next state_7 0 right_wish refl refl refl (lit≤ tt) refl refl)
    (Then _ (swaps state_8 2 0 3 (right_at (Asking 0 false)) refl refl refl refl refl)
    (Then _ (settles state_9 2 0 3 (right_at (Asking 0 true)) refl refl refl refl refl refl)
    (Then _ (flags state_10 2 2 0 3 (right_at (Recorded 2 (Flagging 0))) refl refl refl refl refl)
    (Then _ (owns state_11 2 2 (right_at (Recorded 2 Owning)) refl refl refl refl)
    (Then _ (finishes state_12 0 0 3 [] (main_at (Recorded 0 Running)) (ran 0 [] [] 2) main_body refl refl refl refl refl refl refl refl refl refl refl refl)
    (Then _ (begins state_13 1 1 (left_at (Recorded 1 Ready)) (2 ∷ []) refl refl refl refl refl)
    (Then _ (begins state_14 2 2 (right_at (Recorded 2 Ready)) [] refl refl refl refl refl)
    (Then _ (opens_next state_15 1 one_wish refl refl refl (lit≤ tt) refl refl)
    (Then _ (swaps state_16 3 0 0 (one_at (Asking 0 false)) refl refl refl refl refl)
    (Then _ (opens_next state_17 2 two_wish refl refl refl (lit≤ tt) refl refl)
    (Then _ (swaps state_18 4 0 0 (two_at (Asking 0 false)) refl refl refl refl refl) Over))))))))))))))))))

-- twenty-five choices, of which two are blocked: so many steps, and so many events
turns_from_18 : Turns program driven_18 (1 ∷ 0 ∷ 0 ∷ 0 ∷ 1 ∷ 0 ∷ 1 ∷ []) driven_25
turns_from_18 = turns_of {d = driven_18} {e = driven_25} {workers = 1 ∷ 0 ∷ 0 ∷ 0 ∷ 1 ∷ 0 ∷ 1 ∷ []}
    (Then _ (waits 4 (two_at (Asking 0 true)) refl refl (blocked_at state_18 refl refl refl) refl)
    (Then _ (settles state_20 3 0 0 (one_at (Asking 0 true)) refl refl refl refl refl refl)
    (Then _ (swaps state_21 3 1 1 (one_at (Asking 1 false)) refl refl refl refl refl)
    (Then _ (settles state_22 3 1 1 (one_at (Asking 1 true)) refl refl refl refl refl refl)
    (Then _ (waits 4 (two_at (Asking 0 true)) refl refl (blocked_at state_22 refl refl refl) refl)
    (Then _ (flags state_24 3 3 0 0 (one_at (Recorded 3 (Flagging 0))) refl refl refl refl refl)
    (Then _ (settles state_25 4 0 0 (two_at (Asking 0 true)) refl refl refl refl refl refl) Over)))))))

pub turns_to_25 : Turns program driven_0 first_choices driven_25
turns_to_25 = joined driven_0 driven_18 driven_25 (take 18 first_choices) (1 ∷ 0 ∷ 0 ∷ 0 ∷ 1 ∷ 0 ∷ 1 ∷ []) turns_to_18
    turns_from_18

pub steps_then : state_25.steps ≡ 23
steps_then = refl

pub log_then : state_25.log ≡ take 9 log
log_then = refl

-- and to the end
abbrev last_choices : List ℕ
last_choices = 1 ∷ 1 ∷ 0 ∷ 0 ∷ 0 ∷ 0 ∷ 0 ∷ 0 ∷ 0 ∷ 0 ∷ 1 ∷ 1 ∷ 1 ∷ 1 ∷ 1 ∷ []

pub turns_to_40 : Turns program driven_25 last_choices driven_40
turns_to_40 = turns_of {d = driven_25} {e = driven_40} {workers = last_choices}
    (Then _ (flags state_26 4 4 0 0 (two_at (Recorded 4 (Flagging 0))) refl refl refl refl refl)
    (Then _ (owns state_27 4 4 (two_at (Recorded 4 Owning)) refl refl refl refl)
    (Then _ (flags state_28 3 3 1 1 (one_at (Recorded 3 (Flagging 1))) refl refl refl refl refl)
    (Then _ (owns state_29 3 3 (one_at (Recorded 3 Owning)) refl refl refl refl)
    (Then _ (finishes state_30 1 1 2 [] (left_at (Recorded 1 Running)) (ran 3 (input 2 0 ∷ []) (2 ∷ []) 1) left_body refl refl refl refl refl refl refl refl
    refl refl refl refl)
    (Then _ (unhooks state_31 1 1 0 2 (left_at (Recorded 1 (Leaving 0))) refl refl refl refl refl refl)
    (Then _ (begins state_32 3 3 (one_at (Recorded 3 Ready)) [] refl refl refl refl refl)
    (Then _ (finishes state_33 3 3 3 (0 ∷ 1 ∷ []) (one_at (Recorded 3 Running)) (ran 1 (input 0 0 ∷ input 1 0 ∷ []) (0 ∷ 1 ∷ []) 0) one_body refl refl refl refl
    refl refl refl refl refl refl refl refl)
    (Then _ (passes state_34 3 3 0 0 4 [] (one_at (Recorded 3 (Leaving 0))) refl refl refl refl (lit≤ tt) refl refl)
    (Then _ (unhooks state_35 3 3 1 1 (one_at (Recorded 3 (Leaving 1))) refl refl refl refl refl refl)
    (Then _ (finishes state_36 2 2 2 [] (right_at (Recorded 2 Running)) (ran 4 (input 3 0 ∷ []) (3 ∷ []) 1) right_body refl refl refl refl refl refl refl refl
    refl refl refl refl)
    (Then _ (unhooks state_37 2 2 0 3 (right_at (Recorded 2 (Leaving 0))) refl refl refl refl refl refl)
    (Then _ (begins state_38 4 4 (two_at (Recorded 4 Ready)) [] refl refl refl refl refl)
    (Then _ (finishes state_39 4 4 2 (0 ∷ []) (two_at (Recorded 4 Running)) (ran 2 (input 0 1 ∷ []) (0 ∷ []) 0) two_body refl refl refl refl refl refl refl refl
    refl refl refl refl)
    (Then _ (unhooks state_40 4 4 0 0 (two_at (Recorded 4 (Leaving 0))) refl refl refl refl refl refl) Over)))))))))))))))

pub sound_18 : IsSound program state_18
sound_18 = turns_keep program driven_0 driven_18 (take 18 first_choices) (opening_sound program) turns_to_18

pub sound_25 : IsSound program state_25
sound_25 = turns_keep program driven_0 driven_25 first_choices (opening_sound program) turns_to_25

pub sound_40 : IsSound program state_40
sound_40 = turns_keep program driven_25 driven_40 last_choices sound_25 turns_to_40

all_gone : IsQuiet state_40
all_gone (suc (suc (suc (suc (suc who))))) = refl
all_gone _ = refl

pub whole : IsWholeRun program log
whole = whole_run program state_40 sound_40 all_gone

pub steps_in_all : steps_of_rows (cowns_of_rows log) ≡ 38
steps_in_all = refl

pub values_in_all : values program state_40 ≡ pos 10 ∷ pos 1 ∷ pos 0 ∷ pos 0 ∷ []
values_in_all = refl

pub values_serially : (serial_of_log program log).values ≡ pos 10 ∷ pos 1 ∷ pos 0 ∷ pos 0 ∷ []
values_serially = refl
