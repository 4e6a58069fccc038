-- What a turn leaves as it is: the members, the open enqueues and the releases of every other row.
use Rattle.std.proofs.Common.{◌≡◌, ◌≢◌, ℕ, suc, ◌<◌, ◌⊎◌, inl, inr, true, false, List, [], ◌∷◌, length, refl, sym, ◌∙◌, ap, subst, arith}
use Rattle.std.specs.Prelude.{nat_lt, slice_get, Option, Some, None}
use Rattle.boc_program.specs.declared.program.Program.{Program}
use Rattle.boc_runs.specs.declared.event.Event.{Event}
use Rattle.boc_runs.specs.declared.event.Event.TheVariants as events
use Rattle.boc_runs.specs.declared.stage.Phase.TheVariants as phases
use Rattle.boc_runs.specs.declared.stage.Phase.TheVariants.{Waiting, Ready, Leaving}
use Rattle.boc_runs.specs.declared.stage.Stage.{Stage}
use Rattle.boc_runs.specs.declared.stage.Stage.TheVariants.{Asking, Recorded}
use Rattle.boc_runs.specs.declared.step.Step.{Step}
use Rattle.boc_runs.specs.declared.step.Step.TheVariants as steps
use Rattle.boc_program.specs.Meaning.{Wish}
use Rattle.boc_program.specs.Changed.{changed}
use Rattle.boc_runs.specs.Lives.{Life, Pending, Ended}
use Rattle.boc_runs.specs.Serial.{behaviour_of}
use Rattle.boc_runs.specs.Run.{Member, opening, config_of, next_wish, waiting, spawned_by, members_after_spawn, config_after}
use Rattle.boc_runs.specs.machine.Stages.{OpenBehaviour, parent_of, enqueues, enqueues_at, life, life_at, row_of, row_at}
use Rattle.boc_runs.specs.machine.Queues.{all_granted}
use Rattle.boc_runs.specs.machine.Steps.{State, at, queue, members, opened, noted, with_behaviour, with_stage, with_queue, with_new, with_spawn, asking_on}
use Rattle.boc_runs.specs.machine.Steps.{leaving_on, flagging, made_ready, owned, woken, woken_if, woken_at, child, Advances, Leaves, Opens, Starts, Finishes}
use Rattle.boc_runs.specs.machine.Turns.{IsEnqueueOf, TakesTurn, NoneReady, Begins, Advanced, WaitsToSettle, Opened, Finished, Left, WaitsToLeave}
use Rattle.boc_program.proofs.ChangedItems.{front_item, place_below, length-changed}
use Rattle.boc_machine_laws.proofs.Lists.{same_or_not, read_past, read_pushed, read_front}
use Rattle.boc_machine_laws.proofs.Rows.{changed_other, config_more, with_one_more}
use Rattle.boc_machine_laws.proofs.Core.{put_here, put_others}
use Rattle.boc_machine_laws.proofs.Counting.{by_test}
use Rattle.boc_machine_laws.proofs.Serving.{flagging_pending}

-- an open enqueue of a row, or its release
abbrev pub Concerns : ℕ → Option OpenBehaviour → Type 0
Concerns row b = ((enqueues b ≡ true) × (parent_of b ≡ row)) ⊎ ((life b ≡ Ended) × (row_of b ≡ Some row))

-- what a row has is the same in both states
pub record SameFor (p : Program) (row : ℕ) (s t : State) : Type 0 where
  pub member : (m : Member) → slice_get (members p s) row ≡ Some m → slice_get (members p t) row ≡ Some m
  pub kept : (who : ℕ) → Concerns row (at s who) → at t who ≡ at s who
  pub no_new : (who : ℕ) → Concerns row (at t who) → at t who ≡ at s who

pub same_here : (p : Program) (row : ℕ) (s : State) → SameFor p row s s
same_here p row s = record { member = λ m is. is; kept = λ who c. refl; no_new = λ who c. refl }

pub same_then : (p : Program) (row : ℕ) (s t u : State) → SameFor p row s t → SameFor p row t u → SameFor p row s u
same_then p row s t u a b = record {
  member = λ m is. b.member m (a.member m is);
  kept = λ who c.
      let first = a.kept who c in
      b.kept who (subst (Concerns row) (sym first) c) ∙ first;
  no_new = λ who c.
      let last = b.no_new who c in
      last ∙ a.no_new who (subst (Concerns row) last c);
}

-- a behaviour that is none of that
record IsApart (row : ℕ) (b : Option OpenBehaviour) : Type 0 where
  enqueue : enqueues b ≡ true → parent_of b ≢ row
  own : life b ≡ Ended → row_of b ≢ Some row

not_concerned : (row : ℕ) (b : Option OpenBehaviour) → IsApart row b → Concerns row b → ⊥
not_concerned row b a c = elim c [
  | inl e ↦ a.enqueue e.0 e.1
  | inr l ↦ a.own l.0 l.1
]

none_apart : (row : ℕ) → IsApart row None
none_apart row = record {
  enqueue = λ e. absurd (let f : false ≡ true = e in cc);
  own = λ e f. (let g : None ≡ Some row = f in cc);
}

-- one that another row spawns, and that hasn't ended
child_apart : (row other : ℕ) (b : OpenBehaviour) → b.parent ≡ other → row ≢ other → life_at b.stage ≢ Ended → IsApart row (Some b)
child_apart row other b parent differ lives = record {
  enqueue = λ e f. differ (sym f ∙ parent);
  own = λ e. absurd (lives e);
}

-- one of another row, whose enqueue is over
own_apart : (row other : ℕ) (b : OpenBehaviour) → enqueues_at b.stage ≡ false → row_at b.stage ≡ Some other → row ≢ other → IsApart row (Some b)
own_apart row other b over own differ = record {
  enqueue = λ e. absurd (let f : false ≡ true = sym over ∙ e in cc);
  own = λ e f. differ (let g : Some other ≡ Some row = sym own ∙ f in cc);
}

-- one that is neither enqueued nor has ended
idle_apart : (row : ℕ) (b : OpenBehaviour) → enqueues_at b.stage ≡ false → life_at b.stage ≢ Ended → IsApart row (Some b)
idle_apart row b over lives = record {
  enqueue = λ e. absurd (let f : false ≡ true = sym over ∙ e in cc);
  own = λ e. absurd (lives e);
}

-- ---- one behaviour put in place of another

same_put : (p : Program) (row : ℕ) (s : State) (who : ℕ) (b : OpenBehaviour) (b' : Option OpenBehaviour) → at s who ≡ Some b → IsApart row (Some b)
    → IsApart row b'
    → SameFor p row s (with_behaviour s who b')
same_put p row s who b b' is before after =
    let t = with_behaviour s who b' in
    let here : at t who ≡ b' = put_here s who b b' is in
    record {
      member = λ m e. e;
      kept = λ w c. elim (same_or_not w who) [
        | inl e ↦ absurd (not_concerned row (Some b) before (subst (Concerns row) (ap (at s) e ∙ is) c))
        | inr n ↦ put_others s who b' w n
      ];
      no_new = λ w c. elim (same_or_not w who) [
        | inl e ↦ absurd (not_concerned row b' after (subst (Concerns row) (ap (at t) e ∙ here) c))
        | inr n ↦ put_others s who b' w n
      ];
    }

-- ---- one event more

pub logged : (p : Program) (s : State) (event : Event) → members p (noted s event) ≡ (config_after p (config_of p s.log) event).members
logged p s event = ap (λ c. c.members) (config_more p (opening p) s.log event)

same_noted : (p : Program) (row : ℕ) (s : State) (event : Event)
    → ((m : Member) → slice_get (members p s) row ≡ Some m → slice_get (config_after p (config_of p s.log) event).members row ≡ Some m)
    → SameFor p row s (noted s event)
same_noted p row s event keeps = record {
  member = λ m is. ap (λ ms. slice_get ms row) (logged p s event) ∙ keeps m is;
  kept = λ who c. refl;
  no_new = λ who c. refl;
}

spawned_other : (p : Program) (main : Member) (others : List Member) (parent row : ℕ) (m : Member) (o : Option Wish) → row ≢ parent
    → slice_get (main ∷ others) row ≡ Some m → slice_get (spawned_by (main ∷ others) parent o) row ≡ Some m
spawned_other p main others parent row m None n is = is
spawned_other p main others parent row m (Some w) n is =
    let rows = main ∷ others in
    let front = changed rows parent with_one_more (slice_get rows parent) in
    let low : row < length front = omega (arith, length-changed rows parent with_one_more (slice_get rows parent), place_below rows row m is) in
    front_item front (waiting (behaviour_of w)) row low ∙ changed_other rows parent row with_one_more (slice_get rows parent) n ∙ is

members_spawned : (p : Program) (ms : List Member) (parent row : ℕ) (m : Member) → row ≢ parent → slice_get ms row ≡ Some m
    → slice_get (members_after_spawn p ms parent) row ≡ Some m
members_spawned p [] parent row m n is = absurd (let f : None ≡ Some m = is in cc)
members_spawned p (main ∷ others) parent row m n is =
    spawned_other p main others parent row m (next_wish p (slice_get (main ∷ others) parent)) n is

-- ---- what steps are made of

not_ended : (l : Life) → l ≡ Pending → l ≢ Ended
not_ended l e f = (let g : Pending ≡ Ended = sym e ∙ f in cc)

module _ (p : Program) (row other : ℕ) (differ : row ≢ other) where
  same_asking : (s : State) (who : ℕ) (b : OpenBehaviour) (request : ℕ) → at s who ≡ Some b → b.parent ≡ other → life_at b.stage ≢ Ended
      → SameFor p row s (asking_on p s who b request)
  same_asking s who b request is parent lives =
      let before = child_apart row other b parent differ lives in
      by_test (SameFor p row s) (nat_lt request (length b.cowns)) (with_stage s who b (Asking request false)) (with_spawn p s who b)
      (λ h. same_put p row s who b (Some (record b { stage = Asking request false })) is before
      (child_apart row other (record b { stage = Asking request false }) parent differ (not_ended Pending refl)))
      (λ h.
      let n = length (members p s) in
      let b' : OpenBehaviour = record b { stage = Recorded n (flagging b.cowns 0) } in
      let t = with_behaviour s who (Some b') in
      same_then p row s t (with_spawn p s who b)
      (same_put p row s who b (Some b') is before (child_apart row other b' parent differ (not_ended (life_at b'.stage) (flagging_pending n 0 b.cowns))))
      (same_noted p row t (events.Spawn n b.parent b.offset (record { items = b.cowns }))
      (λ m e. members_spawned p (members p s) b.parent row m (λ q. differ (q ∙ parent)) e)))

  same_leaving : (s : State) (who : ℕ) (b : OpenBehaviour) (request : ℕ) → at s who ≡ Some b → enqueues_at b.stage ≡ false → row_at b.stage ≡ Some other
      → SameFor p row s (leaving_on s who b other request)
  same_leaving s who b request is over own =
      let before = own_apart row other b over own differ in
      by_test (SameFor p row s) (nat_lt request (length b.cowns)) (with_stage s who b (Recorded other (Leaving request))) (with_behaviour s who None)
      (λ h. same_put p row s who b (Some (record b { stage = Recorded other (Leaving request) })) is before
      (own_apart row other (record b { stage = Recorded other (Leaving request) }) refl refl differ))
      (λ h. same_put p row s who b None is before (none_apart row))

same_ready : (p : Program) (row : ℕ) (s : State) (who : ℕ) (b : OpenBehaviour) (r : ℕ) → at s who ≡ Some b → IsApart row (Some b)
    → SameFor p row s (made_ready s who b r)
same_ready p row s who b r is before =
    let b' : OpenBehaviour = record b { stage = Recorded r Ready } in
    let same = same_put p row s who b (Some b') is before (idle_apart row b' refl (not_ended Pending refl)) in
    record { member = same.member; kept = same.kept; no_new = same.no_new }

same_owned : (p : Program) (row : ℕ) (s : State) (who : ℕ) (b : OpenBehaviour) (r : ℕ) → at s who ≡ Some b → IsApart row (Some b)
    → SameFor p row s (owned s who b r)
same_owned p row s who b r is before =
    let b' : OpenBehaviour = record b { stage = Recorded r Waiting } in
    by_test (SameFor p row s) (all_granted (at s) (queue s) who) (made_ready s who b r) (with_stage s who b (Recorded r Waiting))
    (λ h. same_ready p row s who b r is before)
    (λ h. same_put p row s who b (Some b') is before (idle_apart row b' refl (not_ended Pending refl)))

same_woken_at : (p : Program) (row : ℕ) (s : State) (who : ℕ) (b : OpenBehaviour) (stage : Stage) → at s who ≡ Some b → b.stage ≡ stage
    → SameFor p row s (woken_at s who b stage)
same_woken_at p row s who b (Recorded r Waiting) is st =
    by_test (SameFor p row s) (all_granted (at s) (queue s) who) (made_ready s who b r) s
    (λ h. same_ready p row s who b r is (idle_apart row b (ap enqueues_at st) (not_ended (life_at b.stage) (ap life_at st))))
    (λ h. same_here p row s)
same_woken_at p row s who b _ is st = same_here p row s

same_woken_if : (p : Program) (row : ℕ) (s : State) (who : ℕ) (o : Option OpenBehaviour) → at s who ≡ o → SameFor p row s (woken_if s who o)
same_woken_if p row s who None is = same_here p row s
same_woken_if p row s who (Some b) is = same_woken_at p row s who b b.stage is refl

pub same_woken : (p : Program) (row : ℕ) (s : State) (who : ℕ) → SameFor p row s (woken s who)
same_woken p row s who = same_woken_if p row s who (at s who) refl

-- ---- the steps

module _ (p : Program) (s : State) (row other : ℕ) (differ : row ≢ other) where
  parent_is : (who : ℕ) (b : OpenBehaviour) → IsEnqueueOf s who other → at s who ≡ Some b → b.parent ≡ other
  parent_is who b q is = sym (ap parent_of is) ∙ q.parent

  same_advanced : (who : ℕ) (step : Step) (t : State) → IsEnqueueOf s who other → Advances p s who step t → SameFor p row s t
  same_advanced who (steps.Swap i) t q m =
      let b = m.this in
      let b' : OpenBehaviour = record b { stage = Asking i true } in
      let parent = parent_is who b q m.due.is in
      let u = with_stage s who b (Asking i true) in
      let same = same_put p row s who b (Some b') m.due.is
      (child_apart row other b parent differ (not_ended (life_at b.stage) (ap life_at m.due.stage_is)))
      (child_apart row other b' parent differ (not_ended Pending refl)) in
      subst (SameFor p row s) (sym m.gives) (record { member = same.member; kept = same.kept; no_new = same.no_new })
  same_advanced who (steps.Settle i) t q m =
      let b = m.this in
      let same = same_asking p row other differ s who b (suc i) m.due.is (parent_is who b q m.due.is)
      (not_ended (life_at b.stage) (ap life_at m.due.stage_is)) in
      subst (SameFor p row s) (sym m.gives) (record { member = same.member; kept = same.kept; no_new = same.no_new })
  same_advanced who (steps.Flag i) t q m =
      let b = m.this in
      let b' : OpenBehaviour = record b { stage = Recorded m.row (flagging b.cowns (suc i)) } in
      let parent = parent_is who b q m.due.is in
      let same = same_put p row s who b (Some b') m.due.is
      (child_apart row other b parent differ (not_ended (life_at b.stage) (ap life_at m.due.stage_is)))
      (child_apart row other b' parent differ (not_ended (life_at b'.stage) (flagging_pending m.row (suc i) b.cowns))) in
      subst (SameFor p row s) (sym m.gives) (record { member = same.member; kept = same.kept; no_new = same.no_new })
  same_advanced who steps.Own t q m =
      let b = m.this in
      let same = same_owned p row s who b m.row m.is
      (child_apart row other b (parent_is who b q m.is) differ (not_ended (life_at b.stage) (ap life_at m.stage_is))) in
      subst (SameFor p row s) (sym m.gives) (record { member = same.member; kept = same.kept; no_new = same.no_new })
  same_advanced who _ t q m = absurd m

  same_opened : (t : State) → Opens p s other t → SameFor p row s t
  same_opened t m =
      let b = child other m.wish in
      let n = opened s in
      let u = with_new s b in
      let none : at s n ≡ None = read_past s.behaviours n (omega arith) in
      let here : at u n ≡ Some b = read_pushed s.behaviours (Some b) in
      let front : (w : ℕ) → w ≢ n → at u w ≡ at s w = λ w d. read_front s.behaviours (Some b) w d in
      let apart = child_apart row other b refl differ (not_ended Pending refl) in
      let first : SameFor p row s u = record {
        member = λ x e. e;
        kept = λ w c. elim (same_or_not w n) [
          | inl e ↦ absurd (not_concerned row None (none_apart row) (subst (Concerns row) (ap (at s) e ∙ none) c))
          | inr d ↦ front w d
        ];
        no_new = λ w c. elim (same_or_not w n) [
          | inl e ↦ absurd (not_concerned row (Some b) apart (subst (Concerns row) (ap (at u) e ∙ here) c))
          | inr d ↦ front w d
        ];
      } in
      let same = same_then p row s u (asking_on p u n b 0) first (same_asking p row other differ u n b 0 here refl (not_ended Pending refl)) in
      subst (SameFor p row s) (sym m.gives) (record { member = same.member; kept = same.kept; no_new = same.no_new })

  same_started : (who : ℕ) (t : State) → Starts s who other t → SameFor p row s t
  same_started who t m =
      let b = m.this in
      let b' : OpenBehaviour = record b { stage = Recorded other phases.Running } in
      let u = with_behaviour s who (Some b') in
      let same = same_then p row s u (noted u (events.Start other))
      (same_put p row s who b (Some b') m.is (own_apart row other b (ap enqueues_at m.stage_is) (ap row_at m.stage_is) differ)
      (own_apart row other b' refl refl differ))
      (same_noted p row u (events.Start other) (λ x e. changed_other (members p s) other row _ (slice_get (members p s) other) differ ∙ e)) in
      subst (SameFor p row s) (sym m.gives) (record { member = same.member; kept = same.kept; no_new = same.no_new })

  same_finished : (who : ℕ) (t : State) → Finishes p s who other t → SameFor p row s t
  same_finished who t m =
      let b = m.this in
      let e : Event = events.End other m.ticks m.status (record { items = m.written }) in
      let u = noted s e in
      let same = same_then p row s u (leaving_on u who b other 0)
      (same_noted p row s e (λ x is. changed_other (members p s) other row _ (slice_get (members p s) other) differ ∙ is))
      (same_leaving p row other differ u who b 0 m.is (ap enqueues_at m.stage_is) (ap row_at m.stage_is)) in
      subst (SameFor p row s) (sym m.gives) (record { member = same.member; kept = same.kept; no_new = same.no_new })

  same_left : (who : ℕ) (step : Step) (t : State) → Leaves s who other step t → SameFor p row s t
  same_left who (steps.Unhook i) t m =
      let b = m.this in
      let same = same_leaving p row other differ (with_queue s m.c []) who b (suc i) m.due.is (ap enqueues_at m.due.stage_is) (ap row_at m.due.stage_is) in
      subst (SameFor p row s) (sym m.gives) (record { member = same.member; kept = same.kept; no_new = same.no_new })
  same_left who (steps.Pass i) t m =
      let b = m.this in
      let v = with_queue s m.c (m.next ∷ m.rest) in
      let u = leaving_on v who b other (suc i) in
      let first = same_leaving p row other differ v who b (suc i) m.due.is (ap enqueues_at m.due.stage_is) (ap row_at m.due.stage_is) in
      let same = same_then p row v u (woken u m.next) first (same_woken p row u m.next) in
      subst (SameFor p row s) (sym m.gives) (record { member = same.member; kept = same.kept; no_new = same.no_new })
  same_left who _ t m = absurd m

-- ---- a turn

other_row : (row other : ℕ) → Some other ≢ Some row → row ≢ other
other_row row other n e = n (ap (λ z. Some z) (sym e))

-- the turn of a worker that serves another row, and goes on with another one
pub same_turn : (p : Program) (s : State) (row : ℕ) (before : Option ℕ) (t : State) (after : Option ℕ) → before ≢ Some row → after ≢ Some row
    → TakesTurn p s before t after → SameFor p row s t
same_turn p s row None t (Some new) b a (Begins who r u m) = same_started p s row new (other_row row new a) who t m
same_turn p s row None t None b a (NoneReady e) = same_here p row s
same_turn p s row (Some other) t (Some new) b a (Advanced r who step u q m) = same_advanced p s row other (other_row row other b) who step t q m
same_turn p s row (Some other) t (Some new) b a (WaitsToSettle r who q m) = same_here p row s
same_turn p s row (Some other) t (Some new) b a (Opened r u m) = same_opened p s row other (other_row row other b) t m
same_turn p s row (Some other) t after b a (Finished r who u m) = same_finished p s row other (other_row row other b) who t m
same_turn p s row (Some other) t after b a (Left r who step u m) = same_left p s row other (other_row row other b) who step t m
same_turn p s row (Some other) t (Some new) b a (WaitsToLeave r who m) = same_here p row s
