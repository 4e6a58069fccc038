-- One request more is granted: the state that follows, and what is kept.
use Rattle.std.proofs.Common.{◌≡◌, ◌≢◌, ℕ, ◌+◌, ◌-◌, inl, inr, Bool, true, false, cond, eqb, List, [], ◌∷◌, ◌++◌, length, set, refl, sym, ◌∙◌}
use Rattle.std.proofs.Common.{ap, subst, arith, get_or-set_other, length-set, rules}
use Rattle.std.specs.Prelude.{nat_eq, ◌||◌, Option, Some, None}
use Rattle.std.specs.Option.{option_map_or}
use Rattle.std.specs.List.{count_by}
use Rattle.std.proofs.lemmas.List.{set-get_or, map-append}
use Rattle.std.proofs.lemmas.Bool.Decides.{Decides-eqb}
use Rattle.boc_runs.specs.declared.stage.Phase.TheVariants as phases
use Rattle.boc_runs.specs.declared.stage.Stage.{Stage}
use Rattle.boc_runs.specs.declared.stage.Stage.TheVariants.{Asking, Recorded}
use Rattle.boc_runs.specs.machine.Stages.{OpenBehaviour, settled, row_at, enqueues_at, waits_at}
use Rattle.boc_runs.specs.machine.Queues.{is_first, all_granted}
use Rattle.boc_runs.specs.machine.Sound.{IsSound}
use Rattle.boc_runs.specs.machine.Steps.{State, at, queue, members, unrecorded, with_behaviour, made_ready, woken, woken_at, woken_if}
use Rattle.boc_machine_laws.proofs.Lists.{same_or_not, not_eq}
use Rattle.boc_machine_laws.proofs.Core.{one_if}
use Rattle.boc_chain.specs.declared.request.Request.{Request}
use Rattle.boc_chain.specs.Chain.{Place}
use Rattle.boc_dispatch.specs.declared.live.Live.{Live}
use Rattle.boc_dispatch.specs.Grants.{granted_if, with_granted, SameRows}
pub use Rattle.boc_dispatch.specs.Grants.{AreReady, Tied}
use Rattle.boc_dispatch.specs.Inside.{Parts, state, live_at, open_of, behaviours_of, rows_at, row_or_0, ungranted, awaits, is_taken, AreNumbered, AreInHand}
use Rattle.boc_dispatch.specs.Inside.{AreChained, AreCounted, IsKept, HasRooms}
use Rattle.boc_dispatch.specs.Places.{granted}
use Rattle.boc_dispatch.proofs.Counts.{waited_same, all_are_granted}
use Rattle.boc_dispatch.proofs.Onward.{Same, Onward, Known, Steady, Follows, follows_set}
use Rattle.boc_dispatch.proofs.Onward.{follows_as, same_self, steady, onward_at, numbered_on, home_on, queues_on}
use Rattle.boc_dispatch.proofs.Onward.{rows_on, chained_on, of_run_on, in_hand_on}
use Rattle.boc_dispatch.proofs.Tables.{live_there, live_here, live_other, live_new, at_slot, behaviours_changed, taken_changed, behaviours_length}
use Rattle.boc_rules.proofs.Lists.{got_push}

-- ---- what is kept, except for the state that is sound and for what each counts

pub tied_of : (d : Parts) → IsKept d → Tied d
tied_of d k = search rules

pub kept_of : (d : Parts) → Tied d → IsSound d.program (state d) → AreCounted (state d) d.live → IsKept d
kept_of d k sound counted = search rules

-- with other requests in the lists, other ready slots, and after any number of steps
pub tied_with : (d : Parts) (lists : List (List Request)) (ready : List ℕ) (steps : ℕ) → Tied d → AreChained d.live lists d.place → AreReady d.live ready
    → Tied (record d { lists = lists; ready = ready; steps = steps })
tied_with d lists ready steps k chained ready_there = search rules

-- ---- one behaviour put in place of another

abbrev pub put_live : Parts → ℕ → Live → Parts
put_live d slot m = record d { live = set d.live slot (Some m) }

-- it stays ready
abbrev pub StaysReady : Live → Live → Type 0
StaysReady l m = (row : ℕ) → l.stage ≡ Recorded row phases.Ready → m.stage ≡ Recorded row phases.Ready

pub ready_put : (live : List (Option Live)) (ready : List ℕ) (slot : ℕ) (l m : Live) → live_at live slot ≡ Some l → StaysReady l m → AreReady live ready
    → AreReady (set live slot (Some m)) ready
ready_put live ready slot l m is still k i s e =
    let r = k i s e in
    elim (same_or_not s slot) [
      | inl h ↦
          let this : l ≡ r.0 = (let f : Some l ≡ Some r.0 = sym is ∙ ap (live_at live) (sym h) ∙ r.2 in cc) in
          (m, r.1, ap (live_at (set live slot (Some m))) h ∙ live_here live slot (Some m) (live_there live slot l is), still r.1 (ap (λ z. z.stage) this ∙ r.3))
      | inr n ↦ (r.0, r.1, live_other live slot (Some m) s n ∙ r.2, r.3)
    ]

-- all of it stays where each behaviour goes on, and the chains with them
pub tied_on : (d : Parts) (live' : List (Option Live)) (lists : List (List Request)) (place : ℕ → Option Place) → Tied d → Follows Same d.live live'
    → AreChained live' lists place → AreReady live' d.ready → AreInHand live' → count_by is_taken live' ≡ count_by is_taken d.live
    → Tied (record d { lists = lists; place = place; live = live' })
tied_on d live' lists place k f chained ready hand taken = record {
  cowns_are = k.cowns_are;
  values_are = k.values_are;
  homes_are = k.homes_are;
  numbered = numbered_on d.live live' f d.opened k.numbered;
  at_home = home_on d.live live' f d.homes k.at_home;
  in_hand = hand;
  chained = chained;
  of_run = of_run_on d.live live' f d.program (members d.program (state d)) k.of_run;
  ready_there = ready;
  left = ap (λ n. n + d.gone) taken ∙ k.left;
}

pub tied_steady : (d : Parts) (slot : ℕ) (l m : Live) → Tied d → live_at d.live slot ≡ Some l → Steady l m → StaysReady l m → Tied (put_live d slot m)
tied_steady d slot l m k is on still =
    let live' = set d.live slot (Some m) in
    let f : Follows Steady d.live live' = follows_set Steady steady d.live slot l m is on in
    tied_on d live' d.lists d.place k (follows_as Steady Same (λ x y r. r.on.same) d.live live' f)
    (chained_on d.live live' (follows_as Steady Onward (λ x y r. r.on) d.live live' f) d.lists d.place k.chained)
    (ready_put d.live d.ready slot l m is still k.ready_there)
    (in_hand_on d.live live' (follows_as Steady Known known_of d.live live' f) k.in_hand)
    (taken_changed d.live d.opened slot l m k.numbered is on.on.same.number)
  where
    known_of : (x y : Live) → Steady x y → Known x y
    known_of x y r = record { same = r.on.same; child = r.child; enqueues = r.enqueues }

-- the state then
pub state_put : (d : Parts) (slot : ℕ) (l m : Live) → AreNumbered d.live d.opened → live_at d.live slot ≡ Some l → Same l m
    → state (put_live d slot m) ≡ with_behaviour (state d) l.number (Some (open_of m))
state_put d slot l m k is on =
    let live' = set d.live slot (Some m) in
    let f : Follows Same d.live live' = follows_set Same same_self d.live slot l m is on in
    λ i. record {
      log = d.log.events;
      behaviours = behaviours_changed d.live d.opened slot l m k is on.number i;
      queues = queues_on d.live live' f d.lists i;
      ready = rows_on d.live live' f d.ready i;
      steps = d.steps;
    }

abbrev pub with_behaviours : State → List (Option OpenBehaviour) → State
with_behaviours s bs = record s { behaviours = bs }

-- the same open behaviour changes nothing of it
pub state_same : (d : Parts) (slot : ℕ) (l m : Live) → AreNumbered d.live d.opened → live_at d.live slot ≡ Some l → Same l m → open_of m ≡ open_of l
    → state (put_live d slot m) ≡ state d
state_same d slot l m k is on same =
    state_put d slot l m k is on
    ∙ ap (λ z. with_behaviour (state d) l.number z) (ap (λ b. Some b) same ∙ sym (at_slot d.live d.opened slot l k is))
    ∙ ap (with_behaviours (state d)) (set-get_or (behaviours_of d.live d.opened) l.number None)

-- ---- counts

-- each behaviour counts what it awaits, but the one at a slot, which counts one thing more
pub record CountedBut (s : State) (live : List (Option Live)) (slot : ℕ) : Type 0 where
  pub others : (i : ℕ) (l : Live) → i ≢ slot → live_at live i ≡ Some l → (enqueues_at l.stage || waits_at l.stage) ≡ true → l.awaited ≡ awaits s l
  pub this : (l : Live) → live_at live slot ≡ Some l → l.awaited ≡ awaits s l + 1

-- whoever isn't the one that changed awaits what it did
pub awaits_same : (s t : State) (l : Live) → ((c : ℕ) → is_first l.number (queue t c) ≡ is_first l.number (queue s c)) → at t l.number ≡ at s l.number
    → awaits t l ≡ awaits s l
awaits_same s t l queues same =
    ap (λ n. n + cond (enqueues_at l.stage) 1 0) (waited_same (at s) (at t) (queue s) (queue t) l.number l.cowns.items (ap settled same) queues)

-- ---- the grant

-- what follows where the behaviour at a slot is granted a request
pub record Grants (d : Parts) (who : ℕ) (e : Parts) : Type 0 where
  pub tied : Tied e
  pub gives : state e ≡ woken (state d) who
  pub counted : AreCounted (state e) e.live

abbrev pub granted_by : Bool → Live → ℕ → Parts → Parts
granted_by b l slot d = record d {
  live = set d.live slot (Some (cond b (record l { awaited = 0; stage = Recorded (row_or_0 l.stage) phases.Ready }) (record l { awaited = l.awaited - 1 })));
  ready = cond b (d.ready ++ slot ∷ []) d.ready;
}

woken_enqueues : (s : State) (who : ℕ) (b : OpenBehaviour) (st : Stage) → enqueues_at st ≡ true → woken_at s who b st ≡ s
woken_enqueues s who b (Asking i e) h = refl
woken_enqueues s who b (Recorded r (phases.Flagging i)) h = refl
woken_enqueues s who b (Recorded r phases.Owning) h = refl
woken_enqueues s who b _ h = absurd (let f : false ≡ true = h in cc)

pub waits_stage : (st : Stage) → waits_at st ≡ true → (row : ℕ) × (st ≡ Recorded row phases.Waiting)
waits_stage (Recorded r phases.Waiting) h = (r, refl)
waits_stage _ h = absurd (let f : false ≡ true = h in cc)

-- the state with this behaviour for who, and a row after the ready ones
abbrev readied : State → ℕ → OpenBehaviour → ℕ → State
readied s who b row = record (with_behaviour s who (Some b)) { ready = s.ready ++ row ∷ [] }

abbrev with_ready : State → List ℕ → State
with_ready s ready = record s { ready = ready }

abbrev at_stage : OpenBehaviour → Stage → OpenBehaviour
at_stage b stage = record b { stage = stage }

tied_ready : (d : Parts) (slot : ℕ) (l : Live) (row : ℕ) → Tied d → live_at d.live slot ≡ Some l → l.stage ≡ Recorded row phases.Ready
    → Tied (record d { ready = d.ready ++ slot ∷ [] })
tied_ready d slot l row k is stage = tied_with d d.lists (d.ready ++ slot ∷ []) d.steps k k.chained (λ i s e. elim (got_push d.ready i slot s e) [
  | inl h ↦ k.ready_there i s h
  | inr h ↦ (l, row, ap (live_at d.live) (sym h.1) ∙ is, stage)
])

module _ (d : Parts) (slot : ℕ) (l : Live) (k : Tied d) (is : live_at d.live slot ≡ Some l) (counts : CountedBut (state d) d.live slot) where
  -- it awaits more
  still : eqb l.awaited 1 ≡ false → woken (state d) l.number ≡ state d → Grants d l.number (granted_by false l slot d)
  still more same =
      let m : Live = record l { awaited = l.awaited - 1 } in
      let on : Steady l m = search rules in
      let e = put_live d slot m in
      let gives : state e ≡ state d = state_same d slot l m k.numbered is on.on.same refl in
      record {
        tied = tied_steady d slot l m k is on (λ row h. h);
        gives = gives ∙ sym same;
        counted = subst (λ (s : State). AreCounted s e.live) (sym gives) (λ i x h pending. elim (live_new d.live slot (Some m) i x h) [
          | inl u ↦
              let this : m ≡ x = (let f : Some m ≡ Some x = u.1 in cc) in
              let n : l.awaited ≡ awaits (state d) l + 1 = counts.this l is in
              let a : l.awaited - 1 ≡ awaits (state d) l = omega (arith, n) in
              subst (λ (z : Live). z.awaited ≡ awaits (state d) z) this a
          | inr u ↦ counts.others i x u.0 u.1 pending
        ]);
      }

  -- it awaits nothing more
  ready_now : (row : ℕ) → l.stage ≡ Recorded row phases.Waiting → woken (state d) l.number ≡ made_ready (state d) l.number (open_of l) row
      → Grants d l.number (granted_by true l slot d)
  ready_now row stage woke =
      let m : Live = record l { awaited = 0; stage = Recorded (row_or_0 l.stage) phases.Ready } in
      let row_is : row_or_0 l.stage ≡ row = ap row_or_0 stage in
      let stage_is : m.stage ≡ Recorded row phases.Ready = ap (λ z. Recorded z phases.Ready) row_is in
      let cs = l.cowns.items in
      let on : Steady l m = record {
        on = onward_at l 0 (Recorded row phases.Waiting) m.stage stage (ap row_at stage_is) refl refl refl refl;
        child = refl;
        enqueues = sym (ap enqueues_at stage);
      } in
      let never : StaysReady l m = λ r h. absurd (let f : Recorded row phases.Waiting ≡ Recorded r phases.Ready = sym stage ∙ h in cc) in
      let e1 = put_live d slot m in
      let k1 : Tied e1 = tied_steady d slot l m k is on never in
      let here : live_at e1.live slot ≡ Some m = live_here d.live slot (Some m) (live_there d.live slot l is) in
      let rows : rows_at e1.live (d.ready ++ slot ∷ []) ≡ rows_at e1.live d.ready ++ row ∷ [] =
      map-append (λ (x : ℕ). option_map_or (λ (z : Live). row_or_0 z.stage) (live_at e1.live x) 0) d.ready (slot ∷ [])
      ∙ ap (λ o. rows_at e1.live d.ready ++ option_map_or (λ (z : Live). row_or_0 z.stage) o 0 ∷ []) here
      ∙ ap (λ z. rows_at e1.live d.ready ++ row_or_0 z ∷ []) stage_is in
      let put : state e1 ≡ with_behaviour (state d) l.number (Some (open_of m)) = state_put d slot l m k.numbered is on.on.same in
      let e = granted_by true l slot d in
      let gives : state e ≡ made_ready (state d) l.number (open_of l) row =
      ap (with_ready (state e1)) rows
      ∙ ap (λ s. with_ready s (s.ready ++ row ∷ [])) put
      ∙ ap (λ z. readied (state d) l.number (at_stage (open_of l) z) row) stage_is in
      record {
        tied = tied_ready e1 slot m row k1 here stage_is;
        gives = gives ∙ sym woke;
        counted = subst (λ (s : State). AreCounted s e.live) (sym gives) (λ i x h pending. elim (live_new d.live slot (Some m) i x h) [
          | inl u ↦
              let this : m ≡ x = (let f : Some m ≡ Some x = u.1 in cc) in
              absurd (let f : false ≡ true = sym (ap (λ z. enqueues_at z || waits_at z) (ap (λ z. z.stage) (sym this) ∙ stage_is)) ∙ pending in cc)
          | inr u ↦
              let other : x.number ≢ l.number = λ f. u.0 (k.numbered.once i slot x l u.1 is f) in
              counts.others i x u.0 u.1 pending
              ∙ sym (awaits_same (state d) (made_ready (state d) l.number (open_of l) row) x (λ c. refl)
              (get_or-set_other (behaviours_of d.live d.opened) l.number x.number (Some (record (open_of l) { stage = Recorded row phases.Ready })) None
              other))
        ]);
      }

  with_test : ((enqueues_at l.stage || waits_at l.stage) ≡ true) → (b : Bool) → eqb l.awaited 1 ≡ b → (open_yet : Bool) → enqueues_at l.stage ≡ open_yet
      → Grants d l.number (granted_by b l slot d)
  with_test pending true one true open_yet =
      let n : l.awaited ≡ awaits (state d) l + 1 = counts.this l is in
      let m : cond (enqueues_at l.stage) 1 0 ≡ one_if true = ap one_if open_yet in
      let f : l.awaited ≡ 1 = (Decides-eqb l.awaited 1).0 one in
      absurd (omega (arith, n, m, f))
  with_test pending false more true open_yet =
      still more (ap (woken_if (state d) l.number) (at_slot d.live d.opened slot l k.numbered is)
      ∙ woken_enqueues (state d) l.number (open_of l) l.stage open_yet)
  with_test pending b test false over =
      let w = waits_stage l.stage (sym (ap (λ z. z || waits_at l.stage) over) ∙ pending) in
      let u = ungranted (state d) l.number l.cowns.items in
      let n : l.awaited ≡ u + cond (enqueues_at l.stage) 1 0 + 1 = counts.this l is in
      let m : cond (enqueues_at l.stage) 1 0 ≡ one_if false = ap one_if over in
      let awaited_is : l.awaited ≡ u + 1 = omega (arith, n, m) in
      let open_is = at_slot d.live d.opened slot l k.numbered is in
      let all : eqb u 0 ≡ all_granted (at (state d)) (queue (state d)) l.number =
      all_are_granted (at (state d)) (queue (state d)) l.number (open_of l) open_is in
      let woke : (g : Bool) → all_granted (at (state d)) (queue (state d)) l.number ≡ g
      → woken (state d) l.number ≡ cond g (made_ready (state d) l.number (open_of l) w.0) (state d) =
      λ g e. ap (woken_if (state d) l.number) open_is ∙ ap (woken_at (state d) l.number (open_of l)) w.1
      ∙ ap (λ z. cond z (made_ready (state d) l.number (open_of l) w.0) (state d)) e in
      elim b as (λ z. eqb l.awaited 1 ≡ z → Grants d l.number (granted_by z l slot d)) [
        | true ↦ λ one.
            let f : l.awaited ≡ 1 = (Decides-eqb l.awaited 1).0 one in
            ready_now w.0 w.1 (woke true (sym all ∙ (Decides-eqb u 0).1 (omega arith)))
        | false ↦ λ more.
            still more (woke false (sym all ∙ not_eq u 0 (λ e. absurd
            (let f : l.awaited ≡ 1 = omega arith in let g : false ≡ true = sym more ∙ (Decides-eqb l.awaited 1).1 f in cc))))
      ] test

-- the behaviour at a slot is granted a request: it is woken where it waited for that alone
pub grants : (d : Parts) (slot : ℕ) (l : Live) → Tied d → live_at d.live slot ≡ Some l → CountedBut (state d) d.live slot
    → (enqueues_at l.stage || waits_at l.stage) ≡ true
    → Grants d l.number (with_granted slot d)
grants d slot l k is counts pending =
    subst (λ (o : Option Live). Grants d l.number (granted_if o slot d)) (sym is)
    (with_test d slot l k is counts pending (eqb l.awaited 1) refl (enqueues_at l.stage) refl)

-- ---- what stays at a grant

abbrev pub with_lives : Parts → List (Option Live) → List ℕ → Parts
with_lives d live ready = record d { live = live; ready = ready }

-- whatever speaks of neither the table nor the ready list
pub granted_stays : {X : Type 0} (f : Parts → X) (d : Parts) (slot : ℕ) → ((live : List (Option Live)) (ready : List ℕ) → f (with_lives d live ready) ≡ f d)
    → f (with_granted slot d) ≡ f d
granted_stays f d slot same = at_place (live_at d.live slot)
  where
    at_place : (o : Option Live) → f (granted_if o slot d) ≡ f d
    at_place None = refl
    at_place (Some l) =
        same (set d.live slot (Some (granted (row_or_0 l.stage) l))) (cond (nat_eq l.awaited 1) (d.ready ++ slot ∷ []) d.ready)

pub granted_length : (d : Parts) (slot : ℕ) → length (with_granted slot d).live ≡ length d.live
granted_length d slot = at_place (live_at d.live slot)
  where
    at_place : (o : Option Live) → length (granted_if o slot d).live ≡ length d.live
    at_place None = refl
    at_place (Some l) = length-set d.live slot (Some (granted (row_or_0 l.stage) l))

-- ---- one step more, and the rooms

abbrev pub stepped_on : Parts → Parts
stepped_on d = record d { steps = d.steps + 1 }

pub tied_stepped : (d : Parts) → Tied d → Tied (stepped_on d)
tied_stepped d k = tied_with d d.lists d.ready (d.steps + 1) k k.chained k.ready_there

-- rooms stay where as many behaviours are opened, and as many rows recorded
pub rooms_stay : (d e : Parts) (homes ready : ℕ) → IsKept d → IsKept e → SameRows d e → HasRooms d homes ready → HasRooms e homes ready
rooms_stay d e homes ready k k' same h =
    let a = behaviours_length d.live d.opened in
    let b = behaviours_length e.live e.opened in
    let u : unrecorded (state e) ≡ unrecorded (state d) = omega (arith, k.sound.counted, k'.sound.counted, a, b, same.recorded_are, same.opened_are) in
    record {
      rooms = omega (arith, u, h.rooms, same.rooms_are);
      homes = omega (arith, u, h.homes, ap length same.homes_are);
      ready = omega (arith, same.long, h.ready);
      few = omega (arith, same.long, h.few);
    }
