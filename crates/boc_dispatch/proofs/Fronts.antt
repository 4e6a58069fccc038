-- The releases: what stands at the front of a list, and what follows where it leaves.
use Rattle.std.proofs.Common.{◌≡◌, ◌≢◌, ℕ, zero, suc, ◌+◌, ◌<◌, ◌≤◌, inl, inr, Bool, true, false, cond, List, [], ◌∷◌, length, map, drop, set, get_or, refl}
use Rattle.std.proofs.Common.{sym, ◌∙◌, ap, subst, arith, get_or-set_other, get_or-set_same}
use Rattle.std.specs.Prelude.{slice_get, slice_index_or, nat_lt, ◌||◌, Option, Some, None}
use Rattle.std.specs.Option.{option_map_or}
use Rattle.std.proofs.lemmas.Bool.Decides.{Decides-ltb}
use Rattle.boc_runs.specs.declared.stage.Phase.TheVariants as phases
use Rattle.boc_runs.specs.declared.stage.Stage.{Stage}
use Rattle.boc_runs.specs.declared.stage.Stage.TheVariants.{Asking, Recorded}
use Rattle.boc_runs.specs.Lives.{Pending, Running, Ended}
use Rattle.boc_runs.specs.machine.Stages.{standing, standing_at, settled, settled_at, flagged_at, row_at, ready_row_at, life_at, holds, holds_at, enqueues_at}
use Rattle.boc_runs.specs.machine.Stages.{waits_at, cowns_of}
use Rattle.boc_runs.specs.machine.Queues.{times}
use Rattle.boc_runs.specs.machine.Sound.{IsSound, HasNextRequest}
use Rattle.boc_runs.specs.machine.Steps.{State, at, queue, recorded, stepped, with_queue, leaving_on, woken, IsDue, Unhooks, Passes, IsBlockedLeaving}
use Rattle.boc_machine_laws.proofs.Lists.{same_or_not, times-here, times-other, no_less, not_true, not_eq}
use Rattle.boc_machine_laws.proofs.Asking.{among}
use Rattle.boc_machine_laws.proofs.Lawful.{laws_of, not_twice, times-take-le}
use Rattle.boc_machine_laws.proofs.Keeps.{keeps_unhooks, keeps_passes}
use Rattle.boc_machine_laws.proofs.Core.{one_if}
use Rattle.boc_chain.specs.declared.request.Request.{Request}
use Rattle.boc_chain.specs.declared.request.Slot.{Slot}
use Rattle.boc_chain.specs.declared.request.Released.TheVariants as answers
use Rattle.boc_chain.specs.Chain.{Place, cown, leave_answer, after_leave, IsGranted}
use Rattle.boc_chain.specs.Chain.{cowns_of as cowns_at}
use Rattle.boc_dispatch.specs.declared.live.Live.{Live}
use Rattle.boc_dispatch.specs.Grants.{granted_if, with_granted, MayBeGranted, Tied, SameRows, Released, IsStarted}
use Rattle.boc_dispatch.specs.Inside.{Parts, state, live_at, open_of, row_or_0, number_at, ungranted, awaits, AreCounted, IsKept, IsAtStage}
use Rattle.boc_dispatch.specs.Places.{granted as as_granted}
use Rattle.boc_dispatch.proofs.Counts.{first_stays, next_granted}
use Rattle.boc_dispatch.proofs.Tables.{live_other, at_slot, queue_at, queues_put, queues_length}
use Rattle.boc_dispatch.proofs.Standing.{place_is, ready_fits}
use Rattle.boc_dispatch.proofs.Granting.{tied_with, tied_of, CountedBut, awaits_same, Grants, grants, granted_stays, granted_length}
use Rattle.boc_dispatch.proofs.Owning.{holder_runs}
use Rattle.boc_dispatch.proofs.Waking.{leaving_either}
use Rattle.boc_chain.proofs.Got.{got}
use Rattle.boc_machine_laws.proofs.Going.{dropped_here}

-- ---- lists

dropped_has : (cs : List ℕ) (i c : ℕ) → slice_get cs i ≡ Some c → 0 < times c (drop i cs)
dropped_has cs i c e = omega (arith, dropped_here cs i c e)

there : {A : Type 0} (lists : List (List A)) (c : ℕ) (x : A) (xs : List A) → slice_index_or lists c [] ≡ x ∷ xs → c < length lists
there [] c x xs e = absurd (let f : [] ≡ x ∷ xs = e in cc)
there (q ∷ lists) zero x xs e = omega arith
there (q ∷ lists) (suc c) x xs e = omega (arith, there lists c x xs e)

abbrev with_queues : State → List (List ℕ) → State
with_queues s queues = record s { queues = queues }

-- ---- stages

-- who doesn't hold its cowns enqueues or waits, and isn't ready
pending_at : (st : Stage) → holds_at st ≡ false → (enqueues_at st || waits_at st) ≡ true
pending_at (Recorded r phases.Ready) h = absurd (let f : true ≡ false = h in cc)
pending_at (Recorded r phases.Running) h = absurd (let f : true ≡ false = h in cc)
pending_at (Recorded r (phases.Leaving i)) h = absurd (let f : true ≡ false = h in cc)
pending_at _ h = refl

unready_at : (st : Stage) → holds_at st ≡ false → ready_row_at st ≡ None
unready_at (Recorded r phases.Ready) h = absurd (let f : true ≡ false = h in cc)
unready_at _ h = refl

waits_row : (st : Stage) → enqueues_at st ≡ false → holds_at st ≡ false → (row : ℕ) × (row_at st ≡ Some row)
waits_row (Asking i e) g h = absurd (let f : true ≡ false = g in cc)
waits_row (Recorded r p) g h = (r, refl)

settled_le : (c : ℕ) (st : Stage) (cs : List ℕ) → 0 < times c (settled_at st cs) → 0 < times c cs
settled_le c (Asking i e) cs h = let f = times-take-le c i cs in omega arith
settled_le c (Recorded r p) cs h = h

-- ---- a grant elsewhere

granted_other : (d : Parts) (slot s : ℕ) → s ≢ slot → live_at (with_granted slot d).live s ≡ live_at d.live s
granted_other d slot s n = at_place (live_at d.live slot)
  where
    at_place : (o : Option Live) → live_at (granted_if o slot d).live s ≡ live_at d.live s
    at_place None = refl
    at_place (Some l) = live_other d.live slot (Some (as_granted (row_or_0 l.stage) l)) s n

-- ---- the front of the list of a request that is to be released

-- a leaving behaviour, its next request, and whose requests stand in the list
pub record Front (d : Parts) (slot row request : ℕ) (l : Live) : Type 0 where
  pub kept : IsKept d
  pub is : live_at d.live slot ≡ Some l
  pub stage_is : l.stage ≡ Recorded row (phases.Leaving request)

-- a behaviour at that stage
pub due_front : (d : Parts) (slot row request : ℕ) (l : Live) → IsKept d → IsAtStage d slot l (Recorded row (phases.Leaving request))
    → Front d slot row request l
due_front d slot row request l kept it = record { kept = kept; is = it.is; stage_is = it.stage_is }

module _ (d : Parts) (slot row request : ℕ) (l : Live) (f : Front d slot row request l) where
  -- its cown
  abbrev c : ℕ
  c = cown (d.place slot) request

  -- the requests of that
  abbrev q : List Request
  q = slice_index_or d.lists (cown (d.place slot) request) []

  open_is : at (state d) l.number ≡ Some (open_of l)
  open_is = at_slot d.live d.opened slot l (f.kept).numbered f.is

  pub low : request < length l.cowns.items
  low = subst (λ (st : Stage). HasNextRequest st l.cowns.items) f.stage_is (f.kept.sound.requests l.number (open_of l) open_is)

  pub low_place : request < length (cowns_at (d.place slot))
  low_place = subst (λ (o : Option Place). request < length (cowns_at o)) (sym (place_is d f.kept slot l f.is)) low

  cown_is : slice_get l.cowns.items request ≡ Some (cown (d.place slot) request)
  cown_is = got l.cowns.items request 0 low ∙ ap (λ o. Some (cown o request)) (sym (place_is d f.kept slot l f.is))

  pub due : IsDue (state d) l.number (open_of l) (Recorded row (phases.Leaving request)) request (cown (d.place slot) request)
  due = record { is = open_is; stage_is = f.stage_is; cown = cown_is }

  number_of : (s : ℕ) (x : Live) → live_at d.live s ≡ Some x → number_at d.live s ≡ x.number
  number_of s x h = ap (λ o. option_map_or (λ (z : Live). z.number) o 0) h

  queue_is : queue (state d) c ≡ map (λ r. number_at d.live r.slot) q
  queue_is = queue_at d.live d.lists c

  first : slice_get (queue (state d) c) 0 ≡ Some l.number
  first = f.kept.sound.lawful.first l.number c (ap holds open_is ∙ ap holds_at f.stage_is)
      (subst (λ (cs : List ℕ). 0 < times c cs) (sym (ap standing open_is ∙ ap (λ z. standing_at z l.cowns.items) f.stage_is))
      (dropped_has l.cowns.items request c cown_is))

  -- its request is first, and granted
  front_of : (xs : List Request) → slice_index_or d.lists (cown (d.place slot) request) [] ≡ xs
      → (r : Request) × (rest : List Request) × (slice_index_or d.lists (cown (d.place slot) request) [] ≡ r ∷ rest) × (r.slot ≡ slot) × (r.settled ≡ true)
  front_of [] e = absurd (let g : None ≡ Some l.number = sym (ap (λ z. slice_get z 0) (queue_is ∙ ap (map (λ r. number_at d.live r.slot)) e)) ∙ first in cc)
  front_of (r ∷ rest) e =
      let n : Some (number_at d.live r.slot) ≡ Some l.number = sym (ap (λ z. slice_get z 0) (queue_is ∙ ap (map (λ r. number_at d.live r.slot)) e)) ∙ first in
      let x = f.kept.chained.requests c 0 r (ap (λ z. slice_get z 0) e) in
      let number : x.this.number ≡ l.number = (let m : number_at d.live r.slot ≡ l.number = cc in sym (number_of r.slot x.this x.is) ∙ m) in
      let here : r.slot ≡ slot = f.kept.numbered.once r.slot slot x.this l x.is f.is number in
      let same : x.this ≡ l = (let g : Some x.this ≡ Some l = sym x.is ∙ ap (live_at d.live) here ∙ f.is in cc) in (
        r,
        rest,
        e,
        here,
        x.settled_is ∙ ap (λ (z : Live). nat_lt 0 (times c (settled_at z.stage z.cowns.items))) same
            ∙ ap (λ st. nat_lt 0 (times c (settled_at st l.cowns.items))) f.stage_is
            ∙ (Decides-ltb 0 (times c l.cowns.items)).1 (among l.cowns.items request c cown_is),
      )

  pub front : (r : Request) × (rest : List Request) × (slice_index_or d.lists (cown (d.place slot) request) [] ≡ r ∷ rest) × (r.slot ≡ slot)
      × (r.settled ≡ true)
  front = front_of (slice_index_or d.lists (cown (d.place slot) request) []) refl

  pub may_leave : IsGranted slot (slice_index_or d.lists (cown (d.place slot) request) [])
  may_leave = let w = front in subst (IsGranted slot) (sym w.2) (w.3, w.4)

  -- ---- the list without it

  abbrev pub popped : List Request → Parts
  popped requests = record d { lists = set d.lists (cown (d.place slot) request) requests }

  abbrev whos : List Request → List ℕ
  whos requests = map (λ r. number_at d.live r.slot) requests

  pub popped_state : (requests : List Request) → state (popped requests) ≡ with_queue (state d) c (whos requests)
  popped_state requests = ap (with_queues (state d)) (queues_put d.live d.lists c requests)

  popped_tied : (requests : List Request) → c < length d.lists → ((k : ℕ) (r : Request) → slice_get requests k ≡ Some r → (j : ℕ) × (slice_get q j ≡ Some r))
      → Tied (popped requests)
  popped_tied requests inside among_them =
      let k = tied_of d f.kept in
      tied_with d (set d.lists c requests) d.ready d.steps k (record {
        requests = λ e j r h. elim (same_or_not e c) [
          | inl g ↦
              let at_c : slice_get requests j ≡ Some r = sym (ap (λ z. slice_get z j)
              (ap (λ z. get_or (set d.lists c requests) z []) g ∙ get_or-set_same d.lists c requests [] inside)) ∙ h in
              let o = among_them j r at_c in
              let was = k.chained.requests c o.0 r o.1 in
              record {
                this = was.this;
                is = was.is;
                settled_is = was.settled_is ∙ ap (λ z. nat_lt 0 (times z (settled_at was.this.stage was.this.cowns.items))) (sym g);
                flagged_is = was.flagged_is ∙ ap (λ z. nat_lt 0 (times z (flagged_at was.this.stage was.this.cowns.items))) (sym g);
              }
          | inr n ↦ k.chained.requests e j r (sym (ap (λ z. slice_get z j) (get_or-set_other d.lists c e requests [] n)) ∙ h)
        ];
        places = k.chained.places;
      }) k.ready_there

  same_rows : (requests : List Request) → SameRows d (popped requests)
  same_rows requests = record { recorded_are = refl; opened_are = refl; rooms_are = refl; homes_are = refl; long = refl }

  quiet : (x : Live) → l ≡ x → (enqueues_at x.stage || waits_at x.stage) ≡ true → ⊥
  quiet x same pending = let g : false ≡ true = sym (ap (λ z. enqueues_at z || waits_at z) (ap (λ z. z.stage) (sym same) ∙ f.stage_is)) ∙ pending in cc

  -- whoever is pending has another number
  other_number : (i : ℕ) (x : Live) → live_at d.live i ≡ Some x → (enqueues_at x.stage || waits_at x.stage) ≡ true → x.number ≢ l.number
  other_number i x h pending g =
      let here : i ≡ slot = f.kept.numbered.once i slot x l h f.is g in
      let same : l ≡ x = (let j : Some l ≡ Some x = sym f.is ∙ ap (live_at d.live) (sym here) ∙ h in cc) in
      quiet x same pending

  started : IsStarted l.stage
  started h = let g : Pending ≡ Ended = sym h ∙ ap life_at f.stage_is in cc

  childless : l.child ≡ None
  childless = at_child l.child refl
    where
      at_child : (o : Option ℕ) → l.child ≡ o → o ≡ None
      at_child None g = refl
      at_child (Some s) g = absurd (let h : Running ≡ Ended = sym (holder_runs d f.kept slot s l f.is g) ∙ ap life_at f.stage_is in cc)

  row_is : row_at l.stage ≡ Some row
  row_is = ap row_at f.stage_is

  -- it is alone
  module _ (r : Request) (alone : q ≡ r ∷ []) (mine : r.slot ≡ slot) where
    queue_alone : queue (state d) c ≡ l.number ∷ []
    queue_alone = queue_is ∙ ap whos alone ∙ ap (λ z. z ∷ []) (ap (number_at d.live) mine ∙ number_of slot l f.is)

    inside_alone : c < length d.lists
    inside_alone = there d.lists c r [] alone

    pub unhooks : (t : State) → t ≡ stepped (leaving_on (with_queue (state d) c []) l.number (open_of l) row (suc request))
        → Unhooks (state d) l.number row request t
    unhooks t e = record { this = open_of l; c = c; due = due; alone = queue_alone; gives = e }

    pub unhooked : Released d slot row l (suc request) (popped [])
    unhooked = record {
      kept = f.kept;
      is = f.is;
      started = started;
      childless = childless;
      row_is = row_is;
      tied = popped_tied [] inside_alone (λ k x h. absurd (let g : None ≡ Some x = h in cc));
      here = f.is;
      counted = subst (λ (s : State). AreCounted s d.live) (sym (popped_state [])) (λ i x h pending.
          let n = other_number i x h pending in
          f.kept.counted i x h pending
          ∙ sym (awaits_same (state d) (with_queue (state d) c []) x
          (first_stays (queue (state d)) (queue (with_queue (state d) c [])) c l.number x.number [] queue_alone
          (get_or-set_same (state d).queues c [] [] (omega (arith, inside_alone, queues_length d.live d.lists)))
          (λ e o. get_or-set_other (state d).queues c e [] [] o) n refl)
          refl));
      program_same = refl;
      sound = subst (λ (s : State). IsSound d.program (stepped (leaving_on s l.number (open_of l) row (suc request)))) (sym (popped_state []))
          (keeps_unhooks d.program (state d) l.number row request (stepped (leaving_on (with_queue (state d) c []) l.number (open_of l) row (suc request)))
          f.kept.sound
          (unhooks (stepped (leaving_on (with_queue (state d) c []) l.number (open_of l) row (suc request))) refl));
      rows = same_rows [];
    }

  -- another comes after it
  module _ (r next : Request) (rest : List Request) (y : Live) (list_is : q ≡ r ∷ (next ∷ rest)) (mine : r.slot ≡ slot)
      (y_is : live_at d.live next.slot ≡ Some y) where
    queue_two : queue (state d) c ≡ l.number ∷ (y.number ∷ whos rest)
    queue_two =
        queue_is ∙ ap whos list_is ∙ ap (λ z. z ∷ (number_at d.live next.slot ∷ whos rest)) (ap (number_at d.live) mine ∙ number_of slot l f.is)
        ∙ ap (λ z. l.number ∷ (z ∷ whos rest)) (number_of next.slot y y_is)

    inside_two : c < length d.lists
    inside_two = there d.lists c r (next ∷ rest) list_is

    numbers_apart : y.number ≢ l.number
    numbers_apart g = not_twice (at (state d)) (queue (state d)) (laws_of (at (state d)) (queue (state d)) f.kept.sound.lawful) c [] [] (whos rest) l.number
        y.number queue_two (sym g)

    slots_apart : slot ≢ next.slot
    slots_apart g = numbers_apart (let j : Some l ≡ Some y = sym f.is ∙ ap (live_at d.live) g ∙ y_is in let same : l ≡ y = cc in ap (λ z. z.number) (sym same))

    follower_open : at (state d) y.number ≡ Some (open_of y)
    follower_open = at_slot d.live d.opened next.slot y (f.kept).numbered y_is

    -- it isn't first, so it holds nothing yet
    holds_not : holds_at y.stage ≡ false
    holds_not = not_true (holds_at y.stage) (λ h.
        let stood = f.kept.sound.lawful.stands y.number c in
        let times_are : times y.number (queue (state d) c) ≡ times y.number (l.number ∷ (y.number ∷ whos rest)) = ap (times y.number) queue_two in
        let skip = times-other y.number l.number (y.number ∷ whos rest) (λ g. numbers_apart (sym g)) in
        let here = times-here y.number (whos rest) in
        let stands : 0 < times c (standing (at (state d) y.number)) = omega (arith, stood, times_are, skip, here) in
        let front_is = f.kept.sound.lawful.first y.number c (ap holds follower_open ∙ h) stands in
        numbers_apart (let g : Some y.number ≡ Some l.number = sym front_is ∙ first in cc))

    settled_as : next.settled ≡ nat_lt 0 (times c (settled_at y.stage y.cowns.items))
    settled_as =
        let x = f.kept.chained.requests c 1 next (ap (λ z. slice_get z 1) list_is) in
        let same : x.this ≡ y = (let g : Some x.this ≡ Some y = sym x.is ∙ y_is in cc) in
        x.settled_is ∙ ap (λ (z : Live). nat_lt 0 (times c (settled_at z.stage z.cowns.items))) same

    -- it isn't settled: the release is blocked
    pub blocked : next.settled ≡ false → IsBlockedLeaving (state d) l.number row
    blocked unlinked = record {
      this = open_of l;
      request = request;
      c = c;
      next = y.number;
      rest = whos rest;
      due = due;
      front = queue_two;
      unsettled = no_less (times c (settled (at (state d) y.number))) (λ h.
          let n : 0 < times c (settled_at y.stage y.cowns.items) = subst (λ (cs : List ℕ). 0 < times c cs) (ap settled follower_open) h in
          let g : false ≡ true = sym unlinked ∙ settled_as ∙ (Decides-ltb 0 (times c (settled_at y.stage y.cowns.items))).1 n in cc);
    }

    module _ (linked : next.settled ≡ true) where
      abbrev shorter : State
      shorter = with_queue (state d) c (y.number ∷ whos rest)

      settled_there : 0 < times c (settled_at y.stage y.cowns.items)
      settled_there = (Decides-ltb 0 (times c (settled_at y.stage y.cowns.items))).0 (sym settled_as ∙ linked)

      settled_next : 0 < times c (settled (at (state d) y.number))
      settled_next = subst (λ (cs : List ℕ). 0 < times c cs) (sym (ap settled follower_open)) settled_there

      shorter_state : state (popped (next ∷ rest)) ≡ shorter
      shorter_state = popped_state (next ∷ rest) ∙ ap (λ z. with_queue (state d) c (z ∷ whos rest)) (number_of next.slot y y_is)

      shorter_tied : Tied (popped (next ∷ rest))
      shorter_tied = popped_tied (next ∷ rest) inside_two (λ k x h. (suc k, ap (λ z. slice_get z (suc k)) list_is ∙ h))

      front_after : queue shorter c ≡ y.number ∷ whos rest
      front_after = get_or-set_same (state d).queues c (y.number ∷ whos rest) [] (omega (arith, inside_two, queues_length d.live d.lists))

      others_after : (e : ℕ) → e ≢ c → queue shorter e ≡ queue (state d) e
      others_after e o = get_or-set_other (state d).queues c e (y.number ∷ whos rest) [] o

      pending : (enqueues_at y.stage || waits_at y.stage) ≡ true
      pending = pending_at y.stage holds_not

      one_cown : times c y.cowns.items ≡ 1
      one_cown =
          let once = f.kept.sound.lawful.once y.number c in
          let same : times c (cowns_of (at (state d) y.number)) ≡ times c y.cowns.items = ap (λ z. times c (cowns_of z)) follower_open in
          let some = settled_le c y.stage y.cowns.items settled_there in
          omega arith

      counts_at : CountedBut shorter d.live next.slot
      counts_at = record {
        others = λ i x n h waits.
            let other : y.number ≢ x.number = λ g. n (f.kept.numbered.once i next.slot x y h y_is (sym g)) in
            f.kept.counted i x h waits
            ∙ sym (awaits_same (state d) shorter x
            (first_stays (queue (state d)) (queue shorter) c l.number x.number (y.number ∷ whos rest) queue_two front_after others_after
            (other_number i x h waits) (not_eq y.number x.number other))
            refl);
        this = λ x h.
            let same : y ≡ x = (let g : Some y ≡ Some x = sym y_is ∙ h in cc) in
            let n : y.awaited ≡ ungranted (state d) y.number y.cowns.items + cond (enqueues_at y.stage) 1 0 = f.kept.counted next.slot y y_is pending in
            let u : ungranted (state d) y.number y.cowns.items ≡ ungranted shorter y.number y.cowns.items + 1 =
            next_granted (at (state d)) (queue (state d)) (queue shorter) c l.number y.number (whos rest) y.cowns.items queue_two front_after others_after
            numbers_apart settled_next one_cown in
            let result : y.awaited ≡ (ungranted shorter y.number y.cowns.items + cond (enqueues_at y.stage) 1 0) + 1 = omega (arith, n, u) in
            subst (λ (z : Live). z.awaited ≡ awaits shorter z + 1) same result;
      }

      counts : CountedBut (state (popped (next ∷ rest))) d.live next.slot
      counts = subst (λ (s : State). CountedBut s d.live next.slot) (sym shorter_state) counts_at

      granted : Grants (popped (next ∷ rest)) y.number (with_granted next.slot (popped (next ∷ rest)))
      granted = grants (popped (next ∷ rest)) next.slot y shorter_tied y_is counts pending

      after_state : state (with_granted next.slot (popped (next ∷ rest))) ≡ woken shorter y.number
      after_state = (granted).gives ∙ ap (λ z. woken z y.number) shorter_state

      pub passes : (t : State) → t ≡ stepped (leaving_on (state (with_granted next.slot (popped (next ∷ rest)))) l.number (open_of l) row (suc request))
          → Passes (state d) l.number row request t
      passes t e = record {
        this = open_of l;
        c = c;
        next = y.number;
        rest = whos rest;
        due = due;
        front = queue_two;
        settled_next = settled_next;
        gives = e ∙ ap (λ z. stepped (leaving_on z l.number (open_of l) row (suc request))) after_state
            ∙ ap stepped (leaving_either shorter l.number (open_of l) row (suc request) y.number numbers_apart);
      }

      pub passed : Released d slot row l (suc request) (with_granted next.slot (popped (next ∷ rest)))
      passed =
          let e1 = popped (next ∷ rest) in
          let e = with_granted next.slot e1 in
          let t = stepped (leaving_on (state e) l.number (open_of l) row (suc request)) in
          record {
            kept = f.kept;
            is = f.is;
            started = started;
            childless = childless;
            row_is = row_is;
            tied = (granted).tied;
            here = granted_other e1 next.slot slot slots_apart ∙ f.is;
            counted = (granted).counted;
            program_same = granted_stays (λ z. z.program) e1 next.slot (λ live ready. refl);
            sound = keeps_passes d.program (state d) l.number row request t f.kept.sound (passes t refl);
            rows = record {
              recorded_are = granted_stays (λ z. recorded z.program (state z)) e1 next.slot (λ live ready. refl);
              opened_are = granted_stays (λ z. z.opened) e1 next.slot (λ live ready. refl);
              rooms_are = granted_stays (λ z. z.log.rooms) e1 next.slot (λ live ready. refl);
              homes_are = granted_stays (λ z. z.homes) e1 next.slot (λ live ready. refl);
              long = granted_length e1 next.slot;
            };
          }

      pub may_grant : (room : ℕ) → length d.live ≤ room → MayBeGranted (popped (next ∷ rest)) next.slot room
      may_grant room h =
          let n = (counts_at).this y y_is in
          record {
            this = y;
            is = y_is;
            awaits = omega (arith, n);
            recorded = λ one. by_open one (enqueues_at y.stage) refl;
            room = omega (arith, h, ready_fits d f.kept next.slot y y_is (unready_at y.stage holds_not));
          }
        where
          by_open : y.awaited ≡ 1 → (b : Bool) → enqueues_at y.stage ≡ b → (row : ℕ) × (row_at y.stage ≡ Some row)
          by_open one true g =
              let n : y.awaited ≡ (ungranted shorter y.number y.cowns.items + cond (enqueues_at y.stage) 1 0) + 1 = (counts_at).this y y_is in
              let m : cond (enqueues_at y.stage) 1 0 ≡ one_if true = ap one_if g in
              absurd (omega (arith, n, m, one))
          by_open one false g = waits_row y.stage g holds_not

-- ---- what the release answers

-- where none is after
pub unhooked_alone : (requests : List Request) (r : Request) (rest : List Request) → requests ≡ r ∷ rest → answers.Unhooked ≡ leave_answer requests → rest ≡ []
unhooked_alone requests r [] e a = refl
unhooked_alone requests r (next ∷ rest) e a = absurd (by_test next.settled (a ∙ ap leave_answer e))
  where
    by_test : (b : Bool) → answers.Unhooked ≡ cond b (answers.Passed (record { index = next.slot })) answers.Blocked → ⊥
    by_test true g = cc
    by_test false g = cc

-- where the one after is settled
pub passed_next : (requests : List Request) (r : Request) (rest : List Request) (to : Slot) → requests ≡ r ∷ rest → answers.Passed to ≡ leave_answer requests
    → (next : Request) × (behind : List Request) × (rest ≡ next ∷ behind) × (next.settled ≡ true) × (to ≡ record { index = next.slot })
passed_next requests r [] to e a = absurd (let g : answers.Passed to ≡ answers.Unhooked = a ∙ ap leave_answer e in cc)
passed_next requests r (next ∷ rest) to e a =
    let w = by_test next.settled (a ∙ ap leave_answer e) in (next, rest, refl, w.0, w.1)
  where
    by_test : (b : Bool) → answers.Passed to ≡ cond b (answers.Passed (record { index = next.slot })) answers.Blocked
        → (b ≡ true) × (to ≡ record { index = next.slot })
    by_test true g = (refl, cc)
    by_test false g = absurd cc

-- where it isn't
pub blocked_next : (requests : List Request) (r : Request) (rest : List Request) → requests ≡ r ∷ rest → answers.Blocked ≡ leave_answer requests
    → (next : Request) × (behind : List Request) × (rest ≡ next ∷ behind) × (next.settled ≡ false)
blocked_next requests r [] e a = absurd (let g : answers.Blocked ≡ answers.Unhooked = a ∙ ap leave_answer e in cc)
blocked_next requests r (next ∷ rest) e a = (next, rest, refl, by_test next.settled (a ∙ ap leave_answer e))
  where
    by_test : (b : Bool) → answers.Blocked ≡ cond b (answers.Passed (record { index = next.slot })) answers.Blocked → b ≡ false
    by_test true g = absurd cc
    by_test false g = refl

-- the list then
pub left_behind : (r next : Request) (rest : List Request) → next.settled ≡ true → after_leave (r ∷ (next ∷ rest)) ≡ next ∷ rest
left_behind r next rest e = ap (λ b. cond b (next ∷ rest) (r ∷ (next ∷ rest))) e

pub left_as_it_was : (r next : Request) (rest : List Request) → next.settled ≡ false → after_leave (r ∷ (next ∷ rest)) ≡ r ∷ (next ∷ rest)
left_as_it_was r next rest e = ap (λ b. cond b (next ∷ rest) (r ∷ (next ∷ rest))) e
