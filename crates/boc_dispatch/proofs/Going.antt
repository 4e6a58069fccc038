-- What is kept where one behaviour goes on: its stage changes, and how much it awaits.
use Rattle.std.proofs.Common.{◌≡◌, ◌≢◌, ℕ, zero, suc, ◌+◌, ◌<◌, ◌⊎◌, inl, inr, Bool, true, false, cond, ◌&&◌, ◌||◌, List, [], ◌∷◌, length, map, set, get_or}
use Rattle.std.proofs.Common.{refl, sym, ◌∙◌, ap, subst, arith, get_or-set_other, get_or-set_same, length-set}
use Rattle.std.specs.Prelude.{slice_get, slice_index_or, nat_lt, Option, Some, None}
use Rattle.std.specs.Option.{option_map}
use Rattle.std.specs.List.{count_by}
use Rattle.std.proofs.lemmas.List.{set-get_or}
use Rattle.boc_runs.specs.declared.stage.Stage.{Stage}
use Rattle.boc_runs.specs.machine.Stages.{settled_at, flagged_at, row_at, ready_row_at, asks_at, enqueues_at, waits_at, settled, asks}
use Rattle.boc_runs.specs.machine.Queues.{times, is_granted, is_first}
use Rattle.boc_runs.specs.machine.Steps.{State, at, queue, unrecorded, stepped, with_stage}
use Rattle.boc_runs.specs.machine.Sound.{IsSound}
use Rattle.boc_machine_laws.proofs.Core.{put_sum}
use Rattle.boc_machine_laws.proofs.Lists.{same_or_not}
use Rattle.boc_chain.specs.declared.request.Request.{Request}
use Rattle.boc_chain.specs.Chain.{Place}
use Rattle.boc_dispatch.specs.declared.live.Live.{Live}
use Rattle.boc_dispatch.specs.Inside.{live_at, open_of, place_of, number_at, HasRooms, queues_of}
use Rattle.boc_dispatch.specs.Inside.{Parts, IsKept, state, AreCounted, awaits, AreChained, IsRequestOf}
use Rattle.boc_dispatch.proofs.Granting.{Tied, StaysReady, ready_put, kept_of, tied_of, tied_on, tied_stepped}
use Rattle.boc_dispatch.proofs.Onward.{Same, Known, Marked, follows_set, same_self, known, read_on, request_led, in_hand_on}
use Rattle.boc_dispatch.proofs.Tables.{live_there, live_here, live_other, live_new, queue_at, queues_put, queues_same, number_changed}
use Rattle.boc_dispatch.proofs.Tables.{behaviours_changed, taken_changed}
use Rattle.boc_dispatch.proofs.Standing.{open_is, unready_rows}

-- ---- what a behaviour awaits, where the same requests are granted

pub awaits_same : (s t : State) (x : Live) → ((c : ℕ) → is_granted (at t) (queue t) x.number c ≡ is_granted (at s) (queue s) x.number c)
    → awaits t x ≡ awaits s x
awaits_same s t x same =
    ap (λ n. n + cond (enqueues_at x.stage) 1 0) (λ i. count_by (λ c. cond (same c i) false true) x.cowns.items)

pub granted_same : (s t : State) (who c : ℕ) → settled (at t who) ≡ settled (at s who) → queue t c ≡ queue s c
    → is_granted (at t) (queue t) who c ≡ is_granted (at s) (queue s) who c
granted_same s t who c settles q = λ i. nat_lt 0 (times c (settles i)) && is_first who (q i)

-- ---- lists of requests, each changed except for its slot

abbrev pub KeepsSlots : (Request → Request) → Type 0
KeepsSlots f = (r : Request) → (f r).slot ≡ r.slot

pub numbers_mapped : (live : List (Option Live)) (f : Request → Request) → KeepsSlots f → (q : List Request)
    → map (λ r. number_at live r.slot) (map f q) ≡ map (λ r. number_at live r.slot) q
numbers_mapped live f keeps [] = refl
numbers_mapped live f keeps (r ∷ q) = ap (λ s. number_at live s ∷ map (λ r. number_at live r.slot) (map f q)) (keeps r)
    ∙ ap (λ xs. number_at live r.slot ∷ xs) (numbers_mapped live f keeps q)

pub queues_mapped : (live : List (Option Live)) (lists : List (List Request)) (c : ℕ) (f : Request → Request) → KeepsSlots f
    → queues_of live (set lists c (map f (get_or lists c []))) ≡ queues_of live lists
queues_mapped live lists c f keeps =
    queues_put live lists c (map f (get_or lists c []))
    ∙ ap (set (queues_of live lists) c) (numbers_mapped live f keeps (get_or lists c []) ∙ sym (queue_at live lists c))
    ∙ set-get_or (queues_of live lists) c []

got_mapped : (f : Request → Request) (q : List Request) (j : ℕ) (r : Request) → slice_get (map f q) j ≡ Some r
    → (old : Request) × (slice_get q j ≡ Some old) × (r ≡ f old)
got_mapped f [] j r e = absurd (let h : None ≡ Some r = e in cc)
got_mapped f (x ∷ q) zero r e = (x, refl, (let h : Some (f x) ≡ Some r = e in cc))
got_mapped f (x ∷ q) (suc j) r e = got_mapped f q j r e

-- ---- one step that sets a place of the table

abbrev pub placed : Parts → List (List Request) → (ℕ → Option Place) → ℕ → Option Live → Parts
placed d lists place slot new = record d { lists = lists; place = place; live = set d.live slot new; steps = d.steps + 1 }

-- ---- the parts of what is kept

module _ (d : Parts) (k : IsKept d) (slot : ℕ) (l : Live) (is : live_at d.live slot ≡ Some l) (stage : Stage) (awaited : ℕ) where
  abbrev pub gone_on : Live
  gone_on = record l { stage = stage; awaited = awaited }

  abbrev pub table_on : List (Option Live)
  table_on = set d.live slot (Some gone_on)

  pub here_on : live_at table_on slot ≡ Some gone_on
  here_on = live_here d.live slot (Some gone_on) (live_there d.live slot l is)

  pub new_on : (s : ℕ) (x : Live) → live_at table_on s ≡ Some x → ((s ≡ slot) × (x ≡ gone_on)) ⊎ ((s ≢ slot) × (live_at d.live s ≡ Some x))
  new_on s x a =
      elim (live_new d.live slot (Some gone_on) s x a) [
        | inl u ↦ let e : Some gone_on ≡ Some x = u.1 in let f : x ≡ gone_on = cc in inl (u.0, f)
        | inr u ↦ inr u
      ]

  pub counted_on : (t : State) → ((who c : ℕ) → who ≢ l.number → is_granted (at t) (queue t) who c ≡ is_granted (at (state d)) (queue (state d)) who c)
      → ((enqueues_at stage || waits_at stage) ≡ true → awaited ≡ awaits t gone_on) → AreCounted t table_on
  counted_on t same own s x a h =
      elim (new_on s x a) [
        | inl u ↦
            ap (λ z. z.awaited) u.1 ∙ own (ap (λ z. enqueues_at z.stage || waits_at z.stage) (sym u.1) ∙ h) ∙ ap (awaits t) (sym u.1)
        | inr u ↦
            k.counted s x u.1 h
            ∙ sym (awaits_same (state d) t x (λ c. same x.number c (λ e. u.0 (k.numbered.once s slot x l u.1 is e))))
      ]

  -- a request stays that of its behaviour, where the same are settled and flagged
  pub same_marks : ((c : ℕ) → Marked c l gone_on) → (c : ℕ) (r : Request) → IsRequestOf d.live c r → IsRequestOf table_on c r
  same_marks same c r h = request_led d.live table_on c (follows_set (Marked c) (λ x. (refl, refl)) d.live slot l gone_on is (same c)).after r h

  -- what its slot was admitted with stays, where as many requests are exchanged
  pub places_on : place_of gone_on ≡ place_of l → (r : ℕ) → option_map place_of (live_at d.live r) ≡ option_map place_of (live_at table_on r)
  places_on same r = sym (read_on (λ x y. place_of y ≡ place_of x) (option_map place_of) d.live table_on
      (follows_set (λ x y. place_of y ≡ place_of x) (λ x. refl) d.live slot l gone_on is same) (λ x y e. ap (λ z. Some z) e) r)

  -- the requests of one list are changed by f, which changes only those of this slot
  module _ (c0 : ℕ) (f : Request → Request) (keeps : KeepsSlots f) (alone : (r : Request) → r.slot ≢ slot → f r ≡ r)
      (marks : (r : Request) → r.settled ≡ nat_lt 0 (times c0 (settled_at l.stage l.cowns.items))
      → r.flagged ≡ nat_lt 0 (times c0 (flagged_at l.stage l.cowns.items)) → r.slot ≡ slot
      → ((f r).settled ≡ nat_lt 0 (times c0 (settled_at stage l.cowns.items))) × ((f r).flagged ≡ nat_lt 0 (times c0 (flagged_at stage l.cowns.items))))
      (elsewhere : (c : ℕ) → c ≢ c0 → Marked c l gone_on)
      (there : c0 < length d.lists) where
    changed_request : (r : Request) → IsRequestOf d.live c0 r → IsRequestOf table_on c0 (f r)
    changed_request r h =
        elim (same_or_not r.slot slot) [
          | inl e ↦
              let this : h.this ≡ l = (let g : Some h.this ≡ Some l = sym h.is ∙ ap (live_at d.live) e ∙ is in cc) in
              let m = marks r (h.settled_is ∙ ap (λ z. nat_lt 0 (times c0 (settled_at z.stage z.cowns.items))) this)
              (h.flagged_is ∙ ap (λ z. nat_lt 0 (times c0 (flagged_at z.stage z.cowns.items))) this) e in
              record { this = gone_on; is = ap (live_at table_on) (keeps r ∙ e) ∙ here_on; settled_is = m.0; flagged_is = m.1 }
          | inr n ↦
              subst (λ (z : Request). IsRequestOf table_on c0 z) (sym (alone r n))
              (record { this = h.this; is = live_other d.live slot (Some gone_on) r.slot n ∙ h.is; settled_is = h.settled_is; flagged_is = h.flagged_is })
        ]

    same_request : (c : ℕ) → c ≢ c0 → (r : Request) → IsRequestOf d.live c r → IsRequestOf table_on c r
    same_request c other r h = request_led d.live table_on c (follows_set (Marked c) (λ x. (refl, refl)) d.live slot l gone_on is (elsewhere c other)).after r h

    pub requests_on : (c j : ℕ) (r : Request) → slice_get (slice_index_or (set d.lists c0 (map f (get_or d.lists c0 []))) c []) j ≡ Some r
        → IsRequestOf table_on c r
    requests_on c j r a =
        elim (same_or_not c c0) [
          | inl e ↦
              let b : slice_get (map f (get_or d.lists c0 [])) j ≡ Some r =
              ap (λ q. slice_get q j) (sym (ap (λ z. get_or (set d.lists c0 (map f (get_or d.lists c0 []))) z []) e
              ∙ get_or-set_same d.lists c0 (map f (get_or d.lists c0 [])) [] there)) ∙ a in
              let o = got_mapped f (get_or d.lists c0 []) j r b in
              let h = k.chained.requests c0 j o.0 o.1 in
              subst (λ (z : ℕ). IsRequestOf table_on z r) (sym e) (subst (λ (z : Request). IsRequestOf table_on c0 z) (sym o.2) (changed_request o.0 h))
          | inr n ↦ same_request c n r (k.chained.requests c j r
              (ap (λ q. slice_get q j) (sym (get_or-set_other d.lists c0 c (map f (get_or d.lists c0 [])) [] n)) ∙ a))
        ]

  -- ---- all together, where nothing is recorded

  pub queues_on : (lists : List (List Request)) → queues_of table_on lists ≡ queues_of d.live lists
  queues_on lists = queues_same d.live table_on lists (λ c j r a. number_changed d.live d.opened slot l gone_on k.numbered is refl r.slot)

  module _ (lists : List (List Request)) (place : ℕ → Option Place) where
    abbrev pub parts_on : Parts
    parts_on = record d { lists = lists; place = place; live = table_on; steps = d.steps + 1 }

    pub state_on : ready_row_at l.stage ≡ None → (queues : List (List ℕ)) → queues_of d.live lists ≡ queues
        → state parts_on ≡ stepped (record (with_stage (state d) l.number (open_of l) stage) { queues = queues })
    state_on not queues q = λ i. record {
      log = d.log.events;
      behaviours = behaviours_changed d.live d.opened slot l gone_on k.numbered is refl i;
      queues = (queues_on lists ∙ q) i;
      ready = unready_rows d k slot l (Some gone_on) is not i;
      steps = d.steps + 1;
    }

    pub unrecorded_on : asks_at stage ≡ asks_at l.stage → unrecorded (state parts_on) ≡ unrecorded (state d)
    unrecorded_on same =
        let b = behaviours_changed d.live d.opened slot l gone_on k.numbered is refl in
        let p = put_sum (λ o. cond (asks o) 1 0) (state d) l.number (open_of l) (Some (open_of gone_on)) (open_is d k slot l is) in
        let one : Bool → ℕ = λ x. cond x 1 0 in
        let e : one (asks_at stage) ≡ one (asks_at l.stage) = ap one same in
        ap (count_by asks) b ∙ (omega (arith, p, e))

    pub rooms_on : asks_at stage ≡ asks_at l.stage → (homes ready : ℕ) → HasRooms d homes ready → HasRooms parts_on homes ready
    rooms_on same homes ready h =
        let u = unrecorded_on same in
        record {
          rooms = omega (arith, u, h.rooms);
          homes = omega (arith, u, h.homes);
          ready = omega (arith, length-set d.live slot (Some gone_on), h.ready);
          few = omega (arith, length-set d.live slot (Some gone_on), h.few);
        }

    -- under the same row, with its enqueue open as before
    module _ (same_row : row_at stage ≡ row_at l.stage) (same_asks : asks_at stage ≡ asks_at l.stage) (same_enqueues : enqueues_at stage ≡ enqueues_at l.stage)
        (not_ready : ready_row_at l.stage ≡ None) (chained : AreChained table_on lists place) where
      same_on : Same l gone_on
      same_on = record { number = refl; parent = refl; behaviour = refl; spawned = refl; row = same_row; asks = same_asks }

      known_on : Known l gone_on
      known_on = record { same = same_on; child = refl; enqueues = same_enqueues }

      not_this : StaysReady l gone_on
      not_this r e = absurd (let f : None ≡ Some r = sym not_ready ∙ ap ready_row_at e in cc)

      pub tied_gone : Tied parts_on
      tied_gone = tied_stepped (record d { lists = lists; place = place; live = table_on })
          (tied_on d table_on lists place (tied_of d k) (follows_set Same same_self d.live slot l gone_on is same_on) chained
          (ready_put d.live d.ready slot l gone_on is not_this k.ready_there)
          (in_hand_on d.live table_on (follows_set Known known d.live slot l gone_on is known_on) k.in_hand)
          (taken_changed d.live d.opened slot l gone_on k.numbered is refl))

      pub kept_on : IsSound d.program (state parts_on) → AreCounted (state parts_on) table_on → IsKept parts_on
      kept_on sound counted = kept_of parts_on tied_gone sound counted
