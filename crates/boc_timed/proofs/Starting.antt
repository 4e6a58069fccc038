-- Which rows of a run have started, from turn to turn.
use Rattle.std.proofs.Common.{◌≡◌, ◌≢◌, ℕ, suc, ◌<◌, ◌≤◌, ◌⊎◌, inl, inr, false, List, [], ◌∷◌, ◌++◌, length, refl, sym, ◌∙◌, ap, subst, arith}
use Rattle.std.proofs.Common.{length-append}
use Rattle.std.specs.Prelude.{nat_lt, slice_get, Option, Some, None}
use Rattle.std.specs.Option.{option_map}
use Rattle.arrayvec.specs.ArrayVec.{ArrayVec}
use Rattle.boc_program.specs.declared.program.Program.{Program}
use Rattle.boc_program.specs.Changed.{changed}
use Rattle.boc_program.specs.Meaning.{Wish}
use Rattle.boc_program.proofs.ChangedItems.{front_item, last_item, length-changed, place_below}
use Rattle.boc_runs.specs.declared.event.Event.{Event}
use Rattle.boc_runs.specs.declared.event.Event.TheVariants as events
use Rattle.boc_runs.specs.declared.stage.Phase.TheVariants.{Leaving, Waiting}
use Rattle.boc_runs.specs.declared.stage.Stage.{Stage}
use Rattle.boc_runs.specs.declared.stage.Stage.TheVariants.{Asking, Recorded}
use Rattle.boc_runs.specs.declared.step.Step.{Step}
use Rattle.boc_runs.specs.declared.step.Step.TheVariants as steps
use Rattle.boc_runs.specs.Lives.{Ended, Pending, Running}
use Rattle.boc_runs.specs.Serial.{behaviour_of, main_behaviour}
use Rattle.boc_runs.specs.Run.{Member, config_after, config_of, members_after_spawn, next_wish, opening, spawned_by, started_on, waiting}
use Rattle.boc_runs.specs.machine.Stages.{OpenBehaviour, row_at, row_of}
use Rattle.boc_runs.specs.machine.Queues.{all_granted}
use Rattle.boc_runs.specs.machine.Sound.{IsSound}
use Rattle.boc_runs.specs.machine.Steps.{State, Advances, Finishes, Leaves, Opens, Starts, asking_on, at, child, leaving_on, made_ready, members, noted, opened}
use Rattle.boc_runs.specs.machine.Steps.{owned, queue, recorded, values, with_behaviour, with_new, with_queue, with_spawn, with_stage}
use Rattle.boc_runs.specs.machine.Steps.{woken, woken_at, woken_if}
use Rattle.boc_runs.specs.machine.Turns.{TakesTurn, Advanced, Begins, Finished, Left, NoneReady, Opened, WaitsToLeave, WaitsToSettle}
use Rattle.boc_machine_laws.proofs.Counting.{by_test}
use Rattle.boc_machine_laws.proofs.Lists.{same_or_not}
use Rattle.boc_machine_laws.proofs.Rows.{changed_other, changed_same, config_more, with_one_more}

-- a row of a run has started
pub record HasStarted (run : List Member) (row : ℕ) : Type 0 where
  pub member : Member
  pub is : slice_get run row ≡ Some member
  pub lives : member.life ≢ Pending

-- a run has gone on, and none of its rows has started
pub record StartsNone (run later : List Member) : Type 0 where
  pub grows : length run ≤ length later
  pub none : (row : ℕ) → HasStarted later row → HasStarted run row
  pub stays : (row : ℕ) → HasStarted run row → HasStarted later row

-- a run has gone on, and no row of it has started but this one, which was there
pub record StartsOne (run later : List Member) (own : ℕ) : Type 0 where
  pub grows : length run ≤ length later
  pub there : own < length run
  pub others : (row : ℕ) → row ≢ own → HasStarted later row → HasStarted run row
  pub starts : HasStarted later own
  pub stays : (row : ℕ) → HasStarted run row → HasStarted later row

starts_here : (run : List Member) → StartsNone run run
starts_here run = record { grows = omega arith; none = λ row h. h; stays = λ row h. h }

starts_then : (run then later : List Member) → StartsNone run then → StartsNone then later → StartsNone run later
starts_then run then later a b = record {
  grows = omega (arith, a.grows, b.grows);
  none = λ row h. a.none row (b.none row h);
  stays = λ row h. b.stays row (a.stays row h);
}

-- ---- what events do

from_map : (o : Option Member) (f : Member → Member) (x : Member) → option_map f o ≡ Some x → (m : Member) × (o ≡ Some m) × (x ≡ f m)
from_map None f x e = absurd (let none : None ≡ Some x = e in cc)
from_map (Some m) f x e = (m, refl, let same : Some (f m) ≡ Some x = e in cc)

-- one row is changed, and what had started has started still
changed_stays : (run : List Member) (i : ℕ) (f : Member → Member) → ((m : Member) → m.life ≢ Pending → (f m).life ≢ Pending)
    → (row : ℕ) → HasStarted run row → HasStarted (changed run i f (slice_get run i)) row
changed_stays run i f keeps row h =
    let later = changed run i f (slice_get run i) in
    elim (same_or_not row i) [
      | inl same ↦ record {
        member = f h.member;
        is = ap (slice_get later) same ∙ changed_same run i f ∙ ap (option_map f) (ap (slice_get run) (sym same) ∙ h.is);
        lives = keeps h.member h.lives;
      }
      | inr other ↦ record { member = h.member; is = changed_other run i row f (slice_get run i) other ∙ h.is; lives = h.lives }
    ]

-- and it is known of it that it had started if it has now
changed_none : (run : List Member) (i : ℕ) (f : Member → Member) → ((m : Member) → slice_get run i ≡ Some m → (f m).life ≢ Pending → m.life ≢ Pending)
    → ((m : Member) → m.life ≢ Pending → (f m).life ≢ Pending) → StartsNone run (changed run i f (slice_get run i))
changed_none run i f keeps lives =
    let later = changed run i f (slice_get run i) in
    record {
      grows = omega (arith, length-changed run i f (slice_get run i));
      none = λ row h. elim (same_or_not row i) [
        | inl same ↦
            let was = from_map (slice_get run i) f h.member (sym (changed_same run i f) ∙ ap (slice_get later) (sym same) ∙ h.is) in
            record {
              member = was.0;
              is = ap (slice_get run) same ∙ was.1;
              lives = keeps was.0 was.1 (λ e. h.lives (ap (λ (m : Member). m.life) was.2 ∙ e));
            }
        | inr other ↦ record { member = h.member; is = sym (changed_other run i row f (slice_get run i) other) ∙ h.is; lives = h.lives }
      ];
      stays = changed_stays run i f lives;
    }

changed_one : (run : List Member) (i : ℕ) (f : Member → Member) (m : Member) → slice_get run i ≡ Some m → ((m : Member) → (f m).life ≢ Pending)
    → StartsOne run (changed run i f (slice_get run i)) i
changed_one run i f m is lives = record {
  grows = omega (arith, length-changed run i f (slice_get run i));
  there = place_below run i m is;
  others = λ row other h. record { member = h.member; is = sym (changed_other run i row f (slice_get run i) other) ∙ h.is; lives = h.lives };
  starts = record { member = f m; is = changed_same run i f ∙ ap (option_map f) is; lives = lives m };
  stays = changed_stays run i f (λ x l. lives x);
}

more_none : (run : List Member) (new : Member) → new.life ≡ Pending → StartsNone run (run ++ new ∷ [])
more_none run new waits = record {
  grows = omega (arith, length-append run (new ∷ []));
  none = λ row h. elim (same_or_not row (length run)) [
    | inl same ↦
        let e : Some new ≡ Some h.member = sym (last_item run new) ∙ ap (slice_get (run ++ new ∷ [])) (sym same) ∙ h.is in
        let is : new ≡ h.member = cc in
        absurd (h.lives (ap (λ (m : Member). m.life) (sym is) ∙ waits))
    | inr other ↦
        let low : row < length run = omega (arith, other, place_below (run ++ new ∷ []) row h.member h.is, length-append run (new ∷ [])) in
        record { member = h.member; is = sym (front_item run new row low) ∙ h.is; lives = h.lives }
  ];
  stays = λ row h. record { member = h.member; is = front_item run new row (place_below run row h.member h.is) ∙ h.is; lives = h.lives };
}

spawned_none : (run : List Member) (parent : ℕ) (o : Option Wish) → StartsNone run (spawned_by run parent o)
spawned_none run parent None = starts_here run
spawned_none run parent (Some w) =
    let spawner : List Member = changed run parent with_one_more (slice_get run parent) in
    starts_then run spawner (spawner ++ waiting (behaviour_of w) ∷ []) (changed_none run parent with_one_more (λ m is lives. lives) (λ m lives. lives))
    (more_none spawner (waiting (behaviour_of w)) refl)

pub spawn_none : (p : Program) (run : List Member) (parent : ℕ) → StartsNone run (members_after_spawn p run parent)
spawn_none p [] parent = more_none [] (waiting main_behaviour) refl
spawn_none p (main ∷ others) parent = spawned_none (main ∷ others) parent (next_wish p (slice_get (main ∷ others) parent))

-- ---- what steps add to the log: a spawn, at most

abbrev Spawns : State → State → Type 0
Spawns s t =
    (t.log ≡ s.log)
    ⊎ ((row parent offset : ℕ) × (cowns : ArrayVec ℕ) × (t.log ≡ s.log ++ events.Spawn row parent offset cowns ∷ []))

asking_spawns : (p : Program) (s : State) (who : ℕ) (b : OpenBehaviour) (request : ℕ) → Spawns s (asking_on p s who b request)
asking_spawns p s who b request =
    by_test (Spawns s) (nat_lt request (length b.cowns)) (with_stage s who b (Asking request false)) (with_spawn p s who b) (λ h. inl refl)
    (λ h. inr (recorded p s, b.parent, b.offset, record { items = b.cowns }, refl))

-- two states with one log
abbrev SameLog : State → State → Type 0
SameLog s t = t.log ≡ s.log

owned_log : (s : State) (who : ℕ) (b : OpenBehaviour) (row : ℕ) → SameLog s (owned s who b row)
owned_log s who b row =
    by_test (SameLog s) (all_granted (at s) (queue s) who) (made_ready s who b row) (with_stage s who b (Recorded row Waiting)) (λ h. refl) (λ h. refl)

leaving_log : (s : State) (who : ℕ) (b : OpenBehaviour) (row request : ℕ) → SameLog s (leaving_on s who b row request)
leaving_log s who b row request =
    by_test (SameLog s) (nat_lt request (length b.cowns)) (with_stage s who b (Recorded row (Leaving request))) (with_behaviour s who None) (λ h. refl)
    (λ h. refl)

woken_log_at : (s : State) (who : ℕ) (b : OpenBehaviour) (stage : Stage) → SameLog s (woken_at s who b stage)
woken_log_at s who b (Recorded row Waiting) = by_test (SameLog s) (all_granted (at s) (queue s) who) (made_ready s who b row) s (λ h. refl) (λ h. refl)
woken_log_at s who b _ = refl

woken_log_if : (s : State) (who : ℕ) (o : Option OpenBehaviour) → SameLog s (woken_if s who o)
woken_log_if s who None = refl
woken_log_if s who (Some b) = woken_log_at s who b b.stage

woken_log : (s : State) (who : ℕ) → SameLog s (woken s who)
woken_log s who = woken_log_if s who (at s who)

module _ (p : Program) (s : State) where
  -- what an event makes of the rows
  with_event : (t : State) (e : Event) → t.log ≡ s.log ++ e ∷ [] → members p t ≡ (config_after p (config_of p s.log) e).members
  with_event t e is = ap (λ log. (config_of p log).members) is ∙ ap (λ c. c.members) (config_more p (opening p) s.log e)

  none_logged : (t : State) → SameLog s t → StartsNone (members p s) (members p t)
  none_logged t same = subst (StartsNone (members p s)) (ap (λ log. (config_of p log).members) (sym same)) (starts_here (members p s))

  none_spawned : (t : State) → Spawns s t → StartsNone (members p s) (members p t)
  none_spawned t spawns =
      elim spawns [
        | inl same ↦ none_logged t same
        | inr e ↦
            subst (StartsNone (members p s)) (sym (with_event t (events.Spawn e.0 e.1 e.2 e.3) e.4)) (spawn_none p (members p s) e.1)
      ]

  -- ---- steps

  none_advanced : (who : ℕ) (step : Step) (t : State) → Advances p s who step t → StartsNone (members p s) (members p t)
  none_advanced who (steps.Swap i) t m = none_logged t (ap (λ (z : State). z.log) m.gives)
  none_advanced who (steps.Settle i) t m = none_spawned t (subst (Spawns s) (sym m.gives) (asking_spawns p s who m.this (suc i)))
  none_advanced who (steps.Flag i) t m = none_logged t (ap (λ (z : State). z.log) m.gives)
  none_advanced who steps.Own t m = none_logged t (ap (λ (z : State). z.log) m.gives ∙ owned_log s who m.this m.row)
  none_advanced who _ t m = absurd m

  none_opened : (own : ℕ) (t : State) → Opens p s own t → StartsNone (members p s) (members p t)
  none_opened own t m =
      none_spawned t (subst (Spawns s) (sym m.gives) (asking_spawns p (with_new s (child own m.wish)) (opened s) (child own m.wish) 0))

  none_finished : (who own : ℕ) (t : State) → Finishes p s who own t → StartsNone (members p s) (members p t)
  none_finished who own t m =
      let e : Event = events.End own m.ticks m.status (record { items = m.written }) in
      let log : t.log ≡ s.log ++ e ∷ [] = ap (λ (z : State). z.log) m.gives ∙ leaving_log (noted s e) who m.this own 0 in
      subst (StartsNone (members p s)) (sym (with_event t e log))
      (changed_none (members p s) own (λ x. record x { life = Ended }) (λ x is lives waits.
      let same : x ≡ m.may.member = (let f : Some x ≡ Some m.may.member = sym is ∙ m.may.is in cc) in
      let f : Pending ≡ Running = sym waits ∙ ap (λ (z : Member). z.life) same ∙ m.may.runs in cc)
      (λ x lives ended. (let f : Ended ≡ Pending = ended in cc)))

  none_left : (who own : ℕ) (step : Step) (t : State) → Leaves s who own step t → StartsNone (members p s) (members p t)
  none_left who own (steps.Unhook i) t m =
      none_logged t (ap (λ (z : State). z.log) m.gives ∙ leaving_log (with_queue s m.c []) who m.this own (suc i))
  none_left who own (steps.Pass i) t m =
      let u = with_queue s m.c (m.next ∷ m.rest) in
      none_logged t (ap (λ (z : State). z.log) m.gives ∙ woken_log (leaving_on u who m.this own (suc i)) m.next ∙ leaving_log u who m.this own (suc i))
  none_left who own _ t m = absurd m

  one_started : IsSound p s → (who own : ℕ) (t : State) → Starts s who own t → StartsOne (members p s) (members p t) own
  one_started k who own t m =
      let row = k.fits.has_row who own (ap row_of m.is ∙ ap row_at m.stage_is) in
      subst (λ (later : List Member). StartsOne (members p s) later own) (sym (with_event t (events.Start own) (ap (λ (z : State). z.log) m.gives)))
      (changed_one (members p s) own (started_on (values p s)) row.member row.is (λ x runs. (let f : Running ≡ Pending = runs in cc)))

  -- ---- turns

  -- an idle worker has started a row; or none has started, and whoever was idle is so still
  abbrev pub StartsInTurn : State → Option ℕ → Option ℕ → Type 0
  StartsInTurn t before after =
      ((row : ℕ) × (before ≡ None) × (after ≡ Some row) × StartsOne (members p s) (members p t) row)
      ⊎ ((before ≡ None → after ≡ None) × StartsNone (members p s) (members p t))

  no_idle : (row : ℕ) (after : Option ℕ) → Some row ≡ None → after ≡ None
  no_idle row after e = absurd (let f : Some row ≡ None = e in cc)

  pub turn_starts : IsSound p s → (before : Option ℕ) (t : State) (after : Option ℕ) → TakesTurn p s before t after → StartsInTurn t before after
  turn_starts k None t (Some new) (Begins who r u m) = inl (new, refl, refl, one_started k who new t m)
  turn_starts k None t None (NoneReady e) = inr (λ i. refl, starts_here (members p s))
  turn_starts k (Some own) t after (Advanced r who step u q m) = inr (no_idle own after, none_advanced who step t m)
  turn_starts k (Some own) t after (WaitsToSettle r who q m) = inr (no_idle own after, starts_here (members p s))
  turn_starts k (Some own) t after (Opened r u m) = inr (no_idle own after, none_opened own t m)
  turn_starts k (Some own) t after (Finished r who u m) = inr (no_idle own after, none_finished who own t m)
  turn_starts k (Some own) t after (Left r who step u m) = inr (no_idle own after, none_left who own step t m)
  turn_starts k (Some own) t after (WaitsToLeave r who m) = inr (no_idle own after, starts_here (members p s))
