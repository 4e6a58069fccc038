-- A child is opened, as the code does it: with all memory that it needs, or not at all.
use Rattle.std.proofs.Common.{◌≡◌, ◌≢◌, ℕ, zero, suc, ◌+◌, ◌^◌, ◌<◌, ◌≤◌, inl, inr, List, [], ◌∷◌, length, refl, sym, ◌∙◌, ap, subst, arith}
use Rattle.std.specs.Prelude.{slice_index_or, Option, Some, None}
use Rattle.std.specs.Option.{option_map}
use Rattle.std.proofs.lemmas.Bool.{cases_lt}
use Rattle.boc_program.specs.declared.limits.TheConstants.{MOST_ROWS}
use Rattle.boc_runs.specs.declared.stage.Phase.TheVariants as phases
use Rattle.boc_runs.specs.declared.stage.Stage.TheVariants.{Recorded}
use Rattle.boc_runs.specs.machine.Steps.{State, unrecorded, Opens}
use Rattle.boc_runs.specs.machine.Sound.{IsSound}
use Rattle.boc_rules.specs.Log.{Log}
use Rattle.boc_chain.specs.declared.request.Request.{Request}
use Rattle.boc_chain.specs.Chain.{Place, slots, times}
use Rattle.boc_chain.proofs.Spelled.{times_other}
use Rattle.boc_dispatch.specs.declared.live.Live.{Live}
use Rattle.boc_dispatch.specs.Inside.{live_at, place_of, Parts, IsKept, HasRooms, state, underway, IsAtStage, HasInHand, IsNew, AreCounted}
use Rattle.boc_dispatch.specs.Moves.{MayPut, Puts}
use Rattle.boc_dispatch.specs.Places.{with_child}
use Rattle.boc_dispatch.proofs.Fits.{steps_fit}
use Rattle.boc_dispatch.proofs.ChildOpened.{E, apart, p2_is, e_own, e_slot, opened_rooms, may_put, asking_kept, recorded_kept, end_rooms, opens_asking}
use Rattle.boc_dispatch.proofs.ChildOpened.{opens_recorded}
use Rattle.boc_dispatch.proofs.Standing.{AreLive, lists_live}
use Rattle.boc_dispatch.proofs.Tables.{SamePlaces, behaviours_length, behaviours_placed, queues_placed, rows_placed, taken_placed}

-- as many behaviours are without a home as were opened but not recorded
pub homes_left : (d : Parts) → IsKept d → length d.homes + unrecorded (state d) ≡ d.opened
homes_left d k = let a = k.homes_are in let b = k.sound.counted in let c = behaviours_length d.live d.opened in omega (arith, a, b, c)

-- no request is of a slot at which nobody is
none_there : (live : List (Option Live)) (q : List Request) (own : ℕ) → AreLive live q → live_at live own ≡ None → times own (slots q) ≡ 0
none_there live [] own all vacant = refl
none_there live (r ∷ q) own all vacant =
    let h = all zero r refl in
    let other : r.slot ≢ own = (λ e. let f : Some h.0 ≡ None = sym h.1 ∙ ap (live_at live) e ∙ vacant in absurd cc) in
    let rest = none_there live q own (λ j. all (suc j)) vacant in
    omega (arith, times_other own r.slot (slots q) other, rest)

vacant_empty : (d : Parts) → IsKept d → (own : ℕ) → live_at d.live own ≡ None → (c : ℕ) → times own (slots (slice_index_or d.lists c [])) ≡ 0
vacant_empty d k own vacant c = none_there d.live (slice_index_or d.lists c []) own (lists_live d k c) vacant

-- nobody is where nothing was admitted
vacant_of : (d : Parts) → IsKept d → (own : ℕ) → d.place own ≡ None → live_at d.live own ≡ None
vacant_of d k own none =
    elim (live_at d.live own) as (λ o. d.place own ≡ option_map place_of o → o ≡ None) [
      | None ↦ λ e. refl
      | Some l ↦ λ e. absurd (let f : None ≡ Some (place_of l) = sym none ∙ e in cc)
    ] (k.chained.places own)

-- no request is of a slot where nothing was admitted
pub unused_places : (d : Parts) → IsKept d → (c s : ℕ) → d.place s ≡ None → times s (slots (slice_index_or d.lists c [])) ≡ 0
unused_places d k c s none = vacant_empty d k s (vacant_of d k s none) c

-- ---- with more places, and room in the log for one row more

abbrev pub roomier : Log → Log
roomier log = record log { rooms = log.rooms + 1 }

module _ (d : Parts) (k : IsKept d) (live2 : List (Option Live)) (same : SamePlaces d.live live2) where
  abbrev pub longer : Parts
  longer = record d { live = live2; log = roomier d.log }

  longer_state : state longer ≡ state d
  longer_state = λ i. record {
    log = d.log.events;
    behaviours = behaviours_placed d.live live2 d.opened same i;
    queues = queues_placed d.live live2 d.lists same i;
    ready = rows_placed d.live live2 d.ready same i;
    steps = d.steps;
  }

  pub longer_stays : underway longer ≡ underway d
  longer_stays = λ i. record { program = d.program; state = longer_state i }

  pub longer_rooms : (homes ready : ℕ) → HasRooms d homes ready → (homes' ready' : ℕ) → homes ≤ homes' → length live2 ≤ ready'
      → length live2 ≤ 2 ^ 32 → HasRooms longer homes' ready'
  longer_rooms homes ready h homes' ready' a b few =
      let u : unrecorded (state longer) ≡ unrecorded (state d) = ap unrecorded longer_state in
      record { rooms = omega (arith, u, h.rooms); homes = omega (arith, u, a, h.homes); ready = b; few = few }

  there : (r : ℕ) (x : Live) → live_at live2 r ≡ Some x → live_at d.live r ≡ Some x
  there r x is = sym (same r) ∙ is

  pub longer_kept : IsKept longer
  longer_kept = record {
    sound = subst (IsSound d.program) (sym longer_state) k.sound;
    cowns_are = k.cowns_are;
    values_are = k.values_are;
    homes_are = k.homes_are;
    numbered = record { once = λ i j l m a b e. k.numbered.once i j l m (there i l a) (there j m b) e; given = λ i l a. k.numbered.given i l (there i l a) };
    at_home = λ r row x a b. k.at_home r row x (there r x a) b;
    in_hand = record {
      children = λ home r x a has.
          let h = k.in_hand.children home r x (there home x a) has in
          record { child = h.child; is = same r ∙ h.is; enqueued = h.enqueued; parent_is = h.parent_is };
      parents = λ r x a enqueued.
          let h = k.in_hand.parents r x (there r x a) enqueued in
          record { home = h.home; parent = h.parent; is = same h.home ∙ h.is; row_is = h.row_is; knows = h.knows };
    };
    chained = record {
      requests = λ c j r a. let h = k.chained.requests c j r a in
          record { this = h.this; is = same r.slot ∙ h.is; settled_is = h.settled_is; flagged_is = h.flagged_is };
      places = λ r. k.chained.places r ∙ sym (ap (option_map place_of) (same r));
    };
    of_run = record {
      recorded = λ r row x a b. k.of_run.recorded r row x (there r x a) b;
      asking = λ r x a b. k.of_run.asking r x (there r x a) b;
    };
    counted = subst (λ (z : State). AreCounted z live2) (sym longer_state) (λ r x a h. k.counted r x (there r x a) h);
    ready_there = λ j r a. let q = k.ready_there j r a in (q.0, q.1, same r ∙ q.2, q.3);
    left = ap (λ n. n + d.gone) (taken_placed d.live live2 same) ∙ k.left;
  }

-- ---- the child is put in

-- what follows
pub record IsPut (d : Parts) (row homes ready : ℕ) (e : Parts) : Type 0 where
  pub kept : IsKept e
  pub rooms : HasRooms e homes ready
  pub opens : Opens d.program (state d) row (state e)
  pub same : e.program ≡ d.program

-- it may be, and that follows
pub record IsPutting (d : Parts) (row slot own : ℕ) (child : Live) (before : Parts) (homes ready : ℕ) : Type 0 where
  pub may : MayPut before homes slot own child
  pub put : (e : Parts) → ((this : Live) → live_at before.live slot ≡ Some this → Puts before slot own child this e) → IsPut d row homes ready e

module _ (d : Parts) (k : IsKept d) (row slot : ℕ) (p : Live) (it : IsAtStage d slot p (Recorded row phases.Running)) (free : p.child ≡ None) (child : Live)
    (new : IsNew d row child) (few : d.opened < MOST_ROWS)
    (live2 : List (Option Live)) (same : SamePlaces d.live live2) (own : ℕ) (vacant : live_at d.live own ≡ None) (room : own < length live2)
    (place : ℕ → Option Place) (place_own : place own ≡ Some (record { cowns = child.cowns.items; exchanged = 0 }))
    (place_other : (r : ℕ) → r ≢ own → place r ≡ d.place r)
    (homes ready : ℕ) (rooms : unrecorded (state d) ≤ d.log.rooms) (homes_fit : length d.homes + (unrecorded (state d) + 1) ≤ homes)
    (ready_fit : length live2 ≤ ready) (slots_fit : length live2 ≤ 2 ^ 32)
    (before : Parts) (before_is : before ≡ record d { place = place; live = live2; log = roomier d.log }) where
  abbrev opened_parts : Parts
  opened_parts = E d k row slot p it free child new few live2 same own vacant room place place_own place_other

  opened_fit : HasRooms opened_parts homes ready
  opened_fit = opened_rooms d k row slot p it free child new few live2 same own vacant room place place_own place_other homes ready rooms homes_fit ready_fit
      slots_fit

  may_be_put : MayPut before homes slot own child
  may_be_put = subst (λ (z : Parts). MayPut z homes slot own child) (sym before_is) (record {
    this = p;
    is = p2_is d k row slot p it free child new few live2 same own vacant room place place_own place_other;
    apart = apart d k row slot p it free child new few live2 same own vacant room place place_own place_other;
    there = room;
    opened_fits = omega (arith, few);
    steps_fit = steps_fit d.program (state d) k.sound;
    may = λ empty. may_put d k row slot p it free child new few live2 same own vacant room place place_own place_other empty homes ready opened_fit;
  })

  -- it asks, or has no cowns, and its spawn is recorded
  put : (e : Parts) → ((this : Live) → live_at before.live slot ≡ Some this → Puts before slot own child this e) → IsPut d row homes ready e
  put e puts =
      let done : Puts (record d { place = place; live = live2; log = roomier d.log }) slot own child p e =
      subst (λ (z : Parts). Puts z slot own child p e) before_is
      (puts p (ap (λ z. live_at z.live slot) before_is ∙ p2_is d k row slot p it free child new few live2 same own vacant room place place_own place_other)) in
      elim (cases_lt 0 (length child.cowns.items)) [
        | inl more ↦ subst (IsPut d row homes ready) (sym (done.asks more)) (record {
          kept = asking_kept d k row slot p it free child new few live2 same own vacant room place place_own place_other more;
          rooms = opened_fit;
          opens = opens_asking d k row slot p it free child new few live2 same own vacant room place place_own place_other more;
          same = refl;
        })
        | inr none ↦
            let empty : length child.cowns.items ≡ 0 = omega (arith, none) in
            subst (IsPut d row homes ready) (sym (done.records empty (with_child (Some own) p) child
            (e_slot d k row slot p it free child new few live2 same own vacant room place place_own place_other)
            (e_own d k row slot p it free child new few live2 same own vacant room place place_own place_other))) (record {
              kept = recorded_kept d k row slot p it free child new few live2 same own vacant room place place_own place_other empty;
              rooms = end_rooms d k row slot p it free child new few live2 same own vacant room place place_own place_other empty homes ready opened_fit;
              opens = opens_recorded d k row slot p it free child new few live2 same own vacant room place place_own place_other empty;
              same = refl;
            })
      ]

  pub putting : IsPutting d row slot own child before homes ready
  putting = record { may = may_be_put; put = put }

-- ---- as the code tells it

-- who has nothing in hand has no child
pub free_of : (d : Parts) (slot : ℕ) (p : Live) → live_at d.live slot ≡ Some p → HasInHand d slot None → p.child ≡ None
free_of d slot p is h =
    let this : p ≡ h.this = (let f : Some p ≡ Some h.this = sym is ∙ h.is in cc) in
    ap (λ z. z.child) this ∙ h.child_is
