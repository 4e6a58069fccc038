-- Why somebody can step where not all is over.
use Rattle.std.proofs.Common.{◌≡◌, ℕ, zero, suc, ◌+◌, ◌<◌, ◌≤◌, ◌⊎◌, inl, inr, Bool, true, false, List, [], ◌∷◌, ◌++◌, length, take, refl, sym, ◌∙◌, ap, subst}
use Rattle.std.proofs.Common.{arith, append_assoc, length-append}
use Rattle.std.specs.Prelude.{slice_get, nat_lt, ◌&&◌, Option, Some, None}
use Rattle.std.specs.List.{list_all}
use Rattle.std.proofs.lemmas.Bool.{lt-ltb}
use Rattle.boc_program.specs.declared.program.Program.{Program}
use Rattle.boc_runs.specs.declared.stage.Phase.TheVariants.{Flagging, Owning, Waiting, Ready, Running, Leaving}
use Rattle.boc_runs.specs.declared.stage.Stage.{Stage}
use Rattle.boc_runs.specs.declared.stage.Stage.TheVariants.{Asking, Recorded}
use Rattle.boc_runs.specs.declared.step.Step.TheVariants as steps
use Rattle.boc_runs.specs.declared.event.Event.TheVariants as events
use Rattle.boc_program.specs.Rising.{rising}
use Rattle.boc_runs.specs.Lives.{Running as RunningLife, Ended as EndedLife}
use Rattle.boc_runs.specs.Run.{state_of}
use Rattle.boc_program.proofs.RisingNumbers.{rising_rises}
use Rattle.boc_runs.specs.machine.Stages.{OpenBehaviour, parent_of, cowns_of, row_of, row_at, ready_row, ready_row_at, standing, standing_at, settled}
use Rattle.boc_runs.specs.machine.Stages.{settled_at, flagged, flagged_at, asks, asks_at, enqueues, enqueues_at, waits, waits_at, life, life_at}
use Rattle.boc_runs.specs.machine.Queues.{times, is_first, is_granted, InOrder}
use Rattle.boc_runs.specs.machine.Steps.{State, at, queue, members, stepped, with_queue, with_stage, asking_on, owned, flagging, noted, with_ready, woken}
use Rattle.boc_runs.specs.machine.Steps.{leaving_on, IsQuiet, IsDue, IsFlaggedBefore}
use Rattle.boc_runs.specs.machine.Turns.{IsEnqueueOf}
use Rattle.boc_runs.specs.machine.Sound.{IsSound, HasNextRequest}
use Rattle.boc_runs.specs.machine.Movers.{works, works_at, NobodyWorks, CanAdvance, CanGoOn, CanLeave, CanStart, SomebodyCanStep, Enqueue, Body, Release, First}
use Rattle.boc_machine_laws.proofs.Lists.{same_or_not, not_true, times-append, times-here, found, same_numbers}
use Rattle.boc_machine_laws.proofs.Rows.{some_or_none, life_there, with_life}
use Rattle.boc_machine_laws.proofs.OneTurn.{who_leaves}
use Rattle.boc_machine_laws.proofs.Lawful.{standing_le, times-drop-le}
use Rattle.boc_machine_laws.proofs.Asking.{taken_here, taken_there, among}
use Rattle.boc_machine_laws.proofs.Wishes.{lower_before}
use Rattle.boc_machine_laws.proofs.Core.{core_of}
use Rattle.boc_machine_laws.proofs.Going.{front_of_leaving}

-- ---- lists

-- an item that is there
pub item_there : (xs : List ℕ) (i : ℕ) → i < length xs → (x : ℕ) × (slice_get xs i ≡ Some x)
item_there xs i h =
    elim (some_or_none xs i) [
      | inl l ↦ absurd (omega arith)
      | inr x ↦ x
    ]

-- what stands once in a list stands at one place
pub one_place : (x : ℕ) (xs us ys vs : List ℕ) → xs ++ (x ∷ ys) ≡ us ++ (x ∷ vs) → times x (xs ++ (x ∷ ys)) ≤ 1 → xs ≡ us
one_place x [] [] ys vs e h = refl
one_place x [] (u ∷ us) ys vs e h =
    let f : x ∷ ys ≡ u ∷ (us ++ (x ∷ vs)) = e in
    let g : ys ≡ us ++ (x ∷ vs) = cc in
    absurd (omega (arith, h, times-here x ys, ap (times x) g, times-append x us (x ∷ vs), times-here x vs))
one_place x (a ∷ xs) [] ys vs e h =
    let f : a ∷ (xs ++ (x ∷ ys)) ≡ x ∷ vs = e in
    let g : a ≡ x = cc in
    let i : times x (a ∷ (xs ++ (x ∷ ys))) ≡ 1 + times x (xs ++ (x ∷ ys)) =
    ap (λ z. times x (z ∷ (xs ++ (x ∷ ys)))) g ∙ times-here x (xs ++ (x ∷ ys)) in
    absurd (omega (arith, h, i, times-append x xs (x ∷ ys), times-here x ys))
one_place x (a ∷ xs) (u ∷ us) ys vs e h =
    let f : a ∷ (xs ++ (x ∷ ys)) ≡ u ∷ (us ++ (x ∷ vs)) = e in
    let g : xs ++ (x ∷ ys) ≡ us ++ (x ∷ vs) = cc in
    let i : a ≡ u = cc in
    ap (λ z. z ∷ xs) i ∙ ap (λ zs. u ∷ zs) (one_place x xs us ys vs g (omega arith))

-- where not all are so, one isn't
one_not : (f : ℕ → Bool) (cs : List ℕ) → list_all f cs ≡ false → (c : ℕ) × (0 < times c cs) × (f c ≡ false)
one_not f [] h = absurd (let g : true ≡ false = h in cc)
one_not f (c ∷ cs) h =
    elim (f c) as (λ b. f c ≡ b → (b && list_all f cs) ≡ false → (d : ℕ) × (0 < times d (c ∷ cs)) × (f d ≡ false)) [
      | true ↦ λ e g. let rest = one_not f cs g in (rest.0, omega (arith, rest.1), rest.2)
      | false ↦ λ e g. (c, omega (arith, times-here c cs), e)
    ] refl h

-- a behaviour stands where it is in a list
pub inside : (x : ℕ) (ahead behind : List ℕ) → 0 < times x (ahead ++ (x ∷ behind))
inside x ahead behind = omega (arith, times-append x ahead (x ∷ behind), times-here x behind)

both_true : (a b : Bool) → a ≡ true → b ≡ true → (a && b) ≡ true
both_true true b e h = h
both_true false b e h = absurd (let f : false ≡ true = e in cc)

-- the behaviour of a number is gone, or open
pub gone_or_open : (o : Option OpenBehaviour) → (o ≡ None) ⊎ ((b : OpenBehaviour) × (o ≡ Some b))
gone_or_open None = inl refl
gone_or_open (Some b) = inr (b, refl)

-- ---- where no open enqueue has a step, there is none

-- this one is due to settle its request at a cown
pub record AsksAt (s : State) (who c : ℕ) : Type 0 where
  pub this : OpenBehaviour
  pub request : ℕ
  pub due : IsDue s who this (Asking request true) request c

module _ (p : Program) (s : State) (k : IsSound p s) where
  enqueue_of : (who : ℕ) (b : OpenBehaviour) → at s who ≡ Some b → enqueues_at b.stage ≡ true
      → IsEnqueueOf s who b.parent
  enqueue_of who b is h = record { is_open = ap enqueues is ∙ h; parent = ap parent_of is }

  pub can_swap : (who i : ℕ) (b : OpenBehaviour) → at s who ≡ Some b → b.stage ≡ Asking i false → CanAdvance p s who b.parent
  can_swap who i b is st =
      let it = item_there b.cowns i (subst (λ (z : Stage). HasNextRequest z b.cowns) st (k.requests who b is)) in
      record {
        enqueue = enqueue_of who b is (ap enqueues_at st);
        step = steps.Swap i;
        after = stepped (with_queue (with_stage s who b (Asking i true)) it.0 (queue s it.0 ++ (who ∷ [])));
        advances = record { this = b; c = it.0; due = record { is = is; stage_is = st; cown = it.1 }; gives = refl };
      }

  pub can_settle : (who i c : ℕ) (b : OpenBehaviour) → IsDue s who b (Asking i true) i c → IsFlaggedBefore s c who
      → CanAdvance p s who b.parent
  can_settle who i c b due free = record {
    enqueue = enqueue_of who b due.is (ap enqueues_at due.stage_is);
    step = steps.Settle i;
    after = stepped (asking_on p s who b (suc i));
    advances = record { this = b; c = c; due = due; free = free; gives = refl };
  }

  pub can_flag : (who row i : ℕ) (b : OpenBehaviour) → at s who ≡ Some b → b.stage ≡ Recorded row (Flagging i)
      → CanAdvance p s who b.parent
  can_flag who row i b is st =
      let it = item_there b.cowns i (subst (λ (z : Stage). HasNextRequest z b.cowns) st (k.requests who b is)) in
      record {
        enqueue = enqueue_of who b is (ap enqueues_at st);
        step = steps.Flag i;
        after = stepped (with_stage s who b (Recorded row (flagging b.cowns (suc i))));
        advances = record {
          this = b;
          row = row;
          c = it.0;
          due = record { is = is; stage_is = st; cown = it.1 };
          gives = refl;
        };
      }

  pub can_own : (who row : ℕ) (b : OpenBehaviour) → at s who ≡ Some b → b.stage ≡ Recorded row Owning
      → CanAdvance p s who b.parent
  can_own who row b is st = record {
    enqueue = enqueue_of who b is (ap enqueues_at st);
    step = steps.Own;
    after = stepped (owned s who b row);
    advances = record { this = b; row = row; is = is; stage_is = st; gives = refl };
  }

  -- who asks has its cowns in rising order
  rises : (who i : ℕ) (x : Bool) (b : OpenBehaviour) (c d : ℕ) → at s who ≡ Some b → b.stage ≡ Asking i x
      → slice_get b.cowns i ≡ Some d → 0 < times c (take i b.cowns) → c < d
  rises who i x b c d is st e h =
      let wish = k.fits.asking who (ap asks is ∙ ap asks_at st) in
      let cowns : b.cowns ≡ rising wish.wish.cowns = sym (ap cowns_of is) ∙ wish.cowns_are in
      lower_before (rising wish.wish.cowns) i c d (rising_rises wish.wish.cowns)
      (subst (λ (cs : List ℕ). slice_get cs i ≡ Some d) cowns e)
      (subst (λ (cs : List ℕ). 0 < times c (take i cs)) cowns h)

  -- how often it stands in the list of a cown that its stage has it stand in
  pub stands_once : (who c : ℕ) → times who (queue s c) ≤ 1
  stands_once who c = omega (arith, k.lawful.stands who c, standing_le c (at s who), k.lawful.once who c)

  -- who is due to settle stands in the list
  pub asks_inside : (who c : ℕ) → AsksAt s who c → 0 < times who (queue s c)
  asks_inside who c asks =
      let stands : standing (at s who) ≡ take (suc asks.request) asks.this.cowns =
      ap standing asks.due.is ∙ ap (λ z. standing_at z asks.this.cowns) asks.due.stage_is in
      omega (arith, k.lawful.stands who c, ap (times c) stands, taken_here asks.this.cowns asks.request c asks.due.cown)

  module _ (stuck : (who row : ℕ) → CanAdvance p s who row → ⊥) where
    -- one that stands ahead is flagged, unless it is due to settle at this cown or a later one
    flagged_at_stage : (c w : ℕ) (b : OpenBehaviour) (st : Stage) → ((d : ℕ) → c < d → AsksAt s w d → ⊥)
        → (AsksAt s w c → ⊥) → at s w ≡ Some b → b.stage ≡ st → 0 < times c (standing_at st b.cowns)
        → 0 < times c (flagged_at st b.cowns)
    flagged_at_stage c w b (Asking i false) later same is st h = absurd (stuck w b.parent (can_swap w i b is st))
    flagged_at_stage c w b (Asking i true) later same is st h =
        let it = item_there b.cowns i (subst (λ (z : Stage). HasNextRequest z b.cowns) st (k.requests w b is)) in
        let asks : AsksAt s w it.0 = record { this = b; request = i; due = record { is = is; stage_is = st; cown = it.1 } } in
        elim (same_or_not it.0 c) [
          | inl e ↦ absurd (same (subst (λ (z : ℕ). AsksAt s w z) e asks))
          | inr n ↦ absurd (later it.0 (rises w i true b c it.0 is st it.1
              (omega (arith, h, taken_there b.cowns i it.0 c it.1 (λ e. n (sym e))))) asks)
        ]
    flagged_at_stage c w b (Recorded r (Flagging i)) later same is st h = absurd (stuck w b.parent (can_flag w r i b is st))
    flagged_at_stage c w b (Recorded r (Leaving i)) later same is st h = omega (arith, h, times-drop-le c i b.cowns)
    flagged_at_stage c w b _ later same is st h = h

    flagged_ahead : (c w : ℕ) → ((d : ℕ) → c < d → AsksAt s w d → ⊥) → (AsksAt s w c → ⊥) → 0 < times w (queue s c)
        → 0 < times c (flagged (at s w))
    flagged_ahead c w later same h =
        let stands : 0 < times c (standing (at s w)) = omega (arith, h, k.lawful.stands w c) in
        elim (gone_or_open (at s w)) [
          | inl e ↦ absurd (omega (arith, stands, ap (λ o. times c (standing o)) e))
          | inr b ↦ subst (λ (o : Option OpenBehaviour). 0 < times c (flagged o)) (sym b.1)
              (flagged_at_stage c w b.0 b.0.stage later same b.1 refl
              (subst (λ (o : Option OpenBehaviour). 0 < times c (standing o)) b.1 stands))
        ]

    -- of those due to settle at a cown, with none due at a later one, the first in the list could
    none_ahead : (c : ℕ) → ((d w : ℕ) → c < d → AsksAt s w d → ⊥) → (n who : ℕ) (ahead behind : List ℕ)
        → queue s c ≡ ahead ++ (who ∷ behind) → length ahead < n → AsksAt s who c → ⊥
    none_ahead c later zero who ahead behind e l asks = omega arith
    none_ahead c later (suc n) who ahead behind e l asks =
        stuck who asks.this.parent (can_settle who asks.request c asks.this asks.due
        (λ before_ahead before_behind before f.
        let longer : ahead ++ (who ∷ behind) ≡ (before_ahead ++ (before ∷ [])) ++ (who ∷ before_behind) =
        sym e ∙ f ∙ sym (append_assoc before_ahead (before ∷ []) (who ∷ before_behind)) in
        let one : times who (ahead ++ (who ∷ behind)) ≤ 1 =
        subst (λ (ws : List ℕ). times who ws ≤ 1) e (stands_once who c) in
        let place = one_place who ahead (before_ahead ++ (before ∷ [])) behind before_behind longer one in
        flagged_ahead c before (λ d h q. later d before h q)
        (λ q. none_ahead c later n before before_ahead (who ∷ before_behind) f
        (omega (arith, l, ap length place, length-append before_ahead (before ∷ []))) q)
        (subst (λ (ws : List ℕ). 0 < times before ws) (sym f) (inside before before_ahead (who ∷ before_behind)))))

    none_asks : (m c who : ℕ) → length s.queues ≤ c + m → AsksAt s who c → ⊥
    none_asks zero c who l asks =
        let there : 0 < times c (cowns_of (at s who)) =
        omega (arith, ap (λ o. times c (cowns_of o)) asks.due.is, among asks.this.cowns asks.request c asks.due.cown) in
        omega (arith, l, k.in_range who c there)
    none_asks (suc m) c who l asks =
        let place = found who (queue s c) (asks_inside who c asks) in
        none_ahead c (λ d w h q. none_asks m d w (omega (arith, l, h)) q) (suc (length place.0)) who place.0 place.1
        place.2 (omega arith) asks

    none_open_at : (who : ℕ) (b : OpenBehaviour) (st : Stage) → at s who ≡ Some b → b.stage ≡ st → enqueues_at st ≡ false
    none_open_at who b (Asking i false) is st = absurd (stuck who b.parent (can_swap who i b is st))
    none_open_at who b (Asking i true) is st =
        let it = item_there b.cowns i (subst (λ (z : Stage). HasNextRequest z b.cowns) st (k.requests who b is)) in
        absurd (none_asks (length s.queues) it.0 who (omega arith)
        (record { this = b; request = i; due = record { is = is; stage_is = st; cown = it.1 } }))
    none_open_at who b (Recorded r (Flagging i)) is st = absurd (stuck who b.parent (can_flag who r i b is st))
    none_open_at who b (Recorded r Owning) is st = absurd (stuck who b.parent (can_own who r b is st))
    none_open_at who b _ is st = refl

    pub none_open : (who : ℕ) → enqueues (at s who) ≡ false
    none_open who =
        elim (gone_or_open (at s who)) [
          | inl e ↦ ap enqueues e
          | inr b ↦ ap enqueues b.1 ∙ none_open_at who b.0 b.0.stage b.1 refl
        ]

  -- ---- where no enqueue is open, who leaves can

  settled_at_stage : (c : ℕ) (st : Stage) (cs : List ℕ) → enqueues_at st ≡ false → 0 < times c (standing_at st cs)
      → 0 < times c (settled_at st cs)
  settled_at_stage c (Asking i x) cs e h = absurd (let f : true ≡ false = e in cc)
  settled_at_stage c (Recorded r (Leaving i)) cs e h = omega (arith, h, times-drop-le c i cs)
  settled_at_stage c _ cs e h = h

  settled_there : (c : ℕ) (o : Option OpenBehaviour) → enqueues o ≡ false → 0 < times c (standing o)
      → 0 < times c (settled o)
  settled_there c None e h = absurd (omega arith)
  settled_there c (Some b) e h = settled_at_stage c b.stage b.cowns e h

  can_leave_behind : (who row i c : ℕ) (b : OpenBehaviour) (rest : List ℕ) → ((w : ℕ) → enqueues (at s w) ≡ false)
      → IsDue s who b (Recorded row (Leaving i)) i c → queue s c ≡ who ∷ rest → CanLeave s row
  can_leave_behind who row i c b [] none due e = record {
    who = who;
    step = steps.Unhook i;
    after = stepped (leaving_on (with_queue s c []) who b row (suc i));
    leaves = record { this = b; c = c; due = due; alone = e; gives = refl };
  }
  can_leave_behind who row i c b (next ∷ rest) none due e =
      let there : 0 < times next (queue s c) =
      subst (λ (ws : List ℕ). 0 < times next ws) (sym e) (inside next (who ∷ []) rest) in
      record {
        who = who;
        step = steps.Pass i;
        after = stepped (woken (leaving_on (with_queue s c (next ∷ rest)) who b row (suc i)) next);
        leaves = record {
          this = b;
          c = c;
          next = next;
          rest = rest;
          due = due;
          front = e;
          settled_next = settled_there c (at s next) (none next) (omega (arith, there, k.lawful.stands next c));
          gives = refl;
        };
      }

  pub can_leave : (who row i : ℕ) (b : OpenBehaviour) → ((w : ℕ) → enqueues (at s w) ≡ false) → at s who ≡ Some b
      → b.stage ≡ Recorded row (Leaving i) → CanLeave s row
  can_leave who row i b none is st =
      let it = item_there b.cowns i (subst (λ (z : Stage). HasNextRequest z b.cowns) st (k.requests who b is)) in
      let due : IsDue s who b (Recorded row (Leaving i)) i it.0 = record { is = is; stage_is = st; cown = it.1 } in
      let front = front_of_leaving p s who b row i it.0 (core_of p s k) due in
      can_leave_behind who row i it.0 b front.0 none due front.1

  -- ---- where no behaviour works and some is open, one is ready

  -- one that waits has another ahead of it, of a smaller row
  record IsAhead (row : ℕ) : Type 0 where
    pub who : ℕ
    pub own : ℕ
    pub is : row_of (at s who) ≡ Some own
    pub less : own < row

  smaller : (who row r : ℕ) (o : Option ℕ) → row_of (at s who) ≡ o → InOrder o (Some r) → r ≡ row → IsAhead row
  smaller who row r None e h same = absurd h
  smaller who row r (Some own) e h same = record { who = who; own = own; is = e; less = omega (arith, h, same) }

  ahead_of : (c who row : ℕ) (ahead behind : List ℕ) → queue s c ≡ ahead ++ (who ∷ behind)
      → is_first who (queue s c) ≡ false → row_of (at s who) ≡ Some row → IsAhead row
  ahead_of c who row [] behind e first is =
      absurd (let f : false ≡ true = sym first ∙ ap (is_first who) e ∙ same_numbers who who refl in cc)
  ahead_of c who row (x ∷ mid) behind e first is =
      smaller x row row (row_of (at s x)) refl
      (subst (λ (o : Option ℕ). InOrder (row_of (at s x)) o) is (k.lawful.ordered c [] mid behind x who e)) refl

  waits_behind : (who row : ℕ) (b : OpenBehaviour) → at s who ≡ Some b → b.stage ≡ Recorded row Waiting → IsAhead row
  waits_behind who row b is st =
      let ungranted = k.lawful.waiting who (ap waits is ∙ ap waits_at st) in
      let c = one_not (λ c. is_granted (at s) (queue s) who c) (cowns_of (at s who)) ungranted in
      let all : settled (at s who) ≡ cowns_of (at s who) =
      ap settled is ∙ ap (λ z. settled_at z b.cowns) st ∙ sym (ap cowns_of is) in
      let stand : standing (at s who) ≡ cowns_of (at s who) =
      ap standing is ∙ ap (λ z. standing_at z b.cowns) st ∙ sym (ap cowns_of is) in
      let some : 0 < times c.0 (settled (at s who)) = omega (arith, c.1, ap (times c.0) all) in
      let first : is_first who (queue s c.0) ≡ false =
      not_true (is_first who (queue s c.0)) (λ h. absurd
      (let f : true ≡ false = sym (both_true (nat_lt 0 (times c.0 (settled (at s who)))) (is_first who (queue s c.0))
      (lt-ltb 0 (times c.0 (settled (at s who))) some) h) ∙ c.2 in cc)) in
      let place = found who (queue s c.0) (omega (arith, c.1, k.lawful.stands who c.0, ap (times c.0) stand)) in
      ahead_of c.0 who row place.0 place.1 place.2 first (ap row_of is ∙ ap row_at st)

  -- some row is in the ready list
  abbrev SomeReady : Type 0
  SomeReady = (row : ℕ) × (0 < times row s.ready)

  ready_at_stage : (who row : ℕ) (b : OpenBehaviour) (st : Stage) → at s who ≡ Some b → b.stage ≡ st
      → row_at st ≡ Some row → works_at st ≡ false
      → ((w r : ℕ) → r < row → row_of (at s w) ≡ Some r → SomeReady) → SomeReady
  ready_at_stage who row b (Recorded r Waiting) is st h idle earlier =
      let same : r ≡ row = (let f : Some r ≡ Some row = h in cc) in
      let ahead = waits_behind who r b is st in
      earlier ahead.who ahead.own (omega (arith, ahead.less, same)) ahead.is
  ready_at_stage who row b (Recorded r Ready) is st h idle earlier =
      (r, omega (arith, k.ready_once who r (ap ready_row is ∙ ap ready_row_at st)))
  ready_at_stage who row b _ is st h idle earlier = absurd (let f : true ≡ false = idle in cc)

  one_ready : NobodyWorks s → (n who row : ℕ) → row < n → row_of (at s who) ≡ Some row → SomeReady
  one_ready idle zero who row l is = absurd (omega arith)
  one_ready idle (suc n) who row l is =
      elim (gone_or_open (at s who)) [
        | inl e ↦ absurd (let f : None ≡ Some row = sym (ap row_of e) ∙ is in cc)
        | inr b ↦ ready_at_stage who row b.0 b.0.stage b.1 refl (sym (ap row_of b.1) ∙ is) (sym (ap works b.1) ∙ idle who)
            (λ w r m q. one_ready idle n w r (omega (arith, l, m)) q)
      ]

  idle_has_row : (st : Stage) → works_at st ≡ false → (row : ℕ) × (row_at st ≡ Some row)
  idle_has_row (Asking i x) h = absurd (let f : true ≡ false = h in cc)
  idle_has_row (Recorded r phase) h = (r, refl)

  pub quiet_unless_ready : NobodyWorks s → s.ready ≡ [] → IsQuiet s
  quiet_unless_ready idle none who =
      elim (gone_or_open (at s who)) [
        | inl e ↦ e
        | inr b ↦
            let row = idle_has_row b.0.stage (sym (ap works b.1) ∙ idle who) in
            let ready = one_ready idle (suc row.0) who row.0 (omega arith) (ap row_of b.1 ∙ row.1) in
            absurd (omega (arith, ready.1, ap (times ready.0) none))
      ]

  ready_stage : (st : Stage) (row : ℕ) → ready_row_at st ≡ Some row → st ≡ Recorded row Ready
  ready_stage (Recorded r Ready) row h = let f : Some r ≡ Some row = h in let g : r ≡ row = cc in ap (λ z. Recorded z Ready) g
  ready_stage _ row h = absurd (let f : None ≡ Some row = h in cc)

  pub can_start : NobodyWorks s → (row : ℕ) (rest : List ℕ) → s.ready ≡ row ∷ rest → CanStart s row
  can_start idle row rest head =
      let ready = k.ready_only row (omega (arith, ap (times row) head, times-here row rest)) in
      elim (gone_or_open (at s ready.0)) [
        | inl e ↦ absurd (let f : None ≡ Some row = sym (ap ready_row e) ∙ ready.1 in cc)
        | inr b ↦ record {
          idle = idle;
          who = ready.0;
          after = stepped (with_ready (noted (with_stage s ready.0 b.0 (Recorded row Running)) (events.Start row)) rest);
          starts = record {
            this = b.0;
            rest = rest;
            is = b.1;
            stage_is = ready_stage b.0.stage row (sym (ap ready_row b.1) ∙ ready.1);
            head = head;
            gives = refl;
          };
        }
      ]

  -- ---- where nobody can step, nobody works

  pub runs_there : (who row : ℕ) (b : OpenBehaviour) → at s who ≡ Some b → b.stage ≡ Recorded row Running
      → state_of (members p s) row ≡ Some RunningLife
  runs_there who row b is st =
      let x = k.fits.has_row who row (ap row_of is ∙ ap row_at st) in
      life_there (members p s) row x.member x.is ∙ ap (λ l. Some l) (x.life_is ∙ ap life is ∙ ap life_at st)

  module _ (none : (w : ℕ) → enqueues (at s w) ≡ false) (bodies : (row : ℕ) → CanGoOn p s row → ⊥)
      (releases : (row : ℕ) → CanLeave s row → ⊥) where
    idle_at_stage : (who : ℕ) (b : OpenBehaviour) (st : Stage) → at s who ≡ Some b → b.stage ≡ st → enqueues_at st ≡ false
        → works_at st ≡ false
    idle_at_stage who b (Recorded r Waiting) is st e = refl
    idle_at_stage who b (Recorded r Ready) is st e = refl
    idle_at_stage who b (Recorded r Running) is st e = absurd (bodies r (record {
      runs = runs_there who r b is st;
      none_open = λ w h own. let f : true ≡ false = sym h ∙ none w in cc;
    }))
    idle_at_stage who b (Recorded r (Leaving i)) is st e = absurd (releases r (can_leave who r i b none is st))
    idle_at_stage who b _ is st e = absurd (let f : true ≡ false = e in cc)

    pub nobody_works : NobodyWorks s
    nobody_works who =
        elim (gone_or_open (at s who)) [
          | inl e ↦ ap works e
          | inr b ↦ ap works b.1 ∙ idle_at_stage who b.0 b.0.stage b.1 refl (sym (ap enqueues b.1) ∙ none who)
        ]

  -- ---- where nobody can step, all is over

  quiet_or_head : NobodyWorks s → (SomebodyCanStep p s → ⊥) → (rows : List ℕ) → s.ready ≡ rows → IsQuiet s
  quiet_or_head idle stuck [] e = quiet_unless_ready idle e
  quiet_or_head idle stuck (row ∷ rest) e = absurd (stuck (First row (can_start idle row rest e)))

  pub none_is_stuck : (SomebodyCanStep p s → ⊥) → IsQuiet s
  none_is_stuck stuck =
      let none = none_open (λ who row can. stuck (Enqueue who row can)) in
      quiet_or_head (nobody_works none (λ row can. stuck (Body row can)) (λ row can. stuck (Release row can))) stuck s.ready refl

  -- where all is over, nobody can

  pub start_not_quiet : (row : ℕ) → CanStart s row → IsQuiet s → ⊥
  start_not_quiet row can quiet =
      let f : None ≡ Some can.starts.this = sym (quiet can.who) ∙ can.starts.is in cc

  pub body_not_quiet : (row : ℕ) → CanGoOn p s row → IsQuiet s → ⊥
  body_not_quiet row can quiet =
      let m = with_life (members p s) row RunningLife can.runs in
      let who = k.fits.open_rows row m.0 m.1 (λ e. let f : RunningLife ≡ EndedLife = sym m.2 ∙ e in cc) in
      let f : None ≡ Some row = sym (ap row_of (quiet who.0)) ∙ who.1 in cc

  pub enqueue_not_quiet : (who row : ℕ) → CanAdvance p s who row → IsQuiet s → ⊥
  enqueue_not_quiet who row can quiet =
      let f : false ≡ true = sym (ap enqueues (quiet who)) ∙ can.enqueue.is_open in cc

  pub release_not_quiet : (row : ℕ) → CanLeave s row → IsQuiet s → ⊥
  release_not_quiet row can quiet =
      let leaves = who_leaves p s k row can in
      let f : None ≡ Some leaves.this = sym (quiet can.who) ∙ leaves.is in cc
