-- A request is exchanged.
use Rattle.std.proofs.Common.{◌≡◌, ◌≢◌, ℕ, suc, ◌+◌, ◌<◌, inl, inr, true, false, cond, ◌&&◌, ◌||◌, List, [], ◌∷◌, ◌++◌, length, set, take, get_or}
use Rattle.std.proofs.Common.{refl, sym, ◌∙◌, ap, subst, arith, get_or-set_same, get_or-set_other}
use Rattle.std.specs.Prelude.{slice_get, slice_index_or, nat_lt, Option, Some}
use Rattle.std.specs.Option.{option_map, option_map_or}
use Rattle.std.specs.List.{count_by}
use Rattle.std.proofs.lemmas.List.{map-append}
use Rattle.boc_runs.specs.declared.stage.Stage.{Stage}
use Rattle.boc_runs.specs.declared.stage.Stage.TheVariants.{Asking}
use Rattle.boc_runs.specs.machine.Stages.{settled_at, flagged_at, row_at, ready_row_at, asks_at, enqueues_at, waits_at, settled}
use Rattle.boc_runs.specs.machine.Queues.{times, is_granted, is_first}
use Rattle.boc_runs.specs.machine.Steps.{State, at, queue, stepped, with_stage, with_queue, Swaps}
use Rattle.boc_runs.specs.machine.Sound.{HasNextRequest}
use Rattle.boc_machine_laws.proofs.Lists.{same_or_not, not_eq}
use Rattle.boc_machine_laws.proofs.Asking.{fresh_at, among}
use Rattle.boc_machine_laws.proofs.Core.{put_here, put_others}
use Rattle.boc_machine_laws.proofs.Keeps.{keeps_swaps}
use Rattle.boc_chain.specs.declared.request.Request.{Request}
use Rattle.boc_chain.specs.Chain.{Place, cowns_of, exchanged_of, with_change, with_fresh, fresh, one_more}
use Rattle.boc_dispatch.specs.declared.live.Live.{Live}
use Rattle.boc_dispatch.specs.Inside.{live_at, open_of, place_of, number_at, Parts, IsKept, HasRooms, state, IsAtStage, AreCounted, AreChained, IsRequestOf}
use Rattle.boc_dispatch.specs.Inside.{queues_of, exchanged_at}
use Rattle.boc_dispatch.proofs.Standing.{open_is, place_is, cown_there, cown_once}
use Rattle.boc_dispatch.proofs.Going.{granted_same, awaits_same, gone_on, table_on, here_on, counted_on, same_marks, parts_on, state_on, rooms_on, kept_on}
use Rattle.boc_dispatch.proofs.Tables.{live_other, queue_at, queues_put, queues_length}
use Rattle.boc_rules.proofs.Lists.{got_push}
use Rattle.boc_chain.proofs.Got.{got}

-- ---- a list with one more at its end

first_more : (who n : ℕ) (q : List ℕ) → who ≢ n → is_first who (q ++ (n ∷ [])) ≡ is_first who q
first_more who n [] other = not_eq n who (λ e. other (sym e))
first_more who n (x ∷ q) other = refl

module _ (d : Parts) (k : IsKept d) (slot : ℕ) (l : Live) (request : ℕ) (it : IsAtStage d slot l (Asking request false)) where
  abbrev cs : List ℕ
  cs = l.cowns.items

  abbrev c0 : ℕ
  c0 = slice_index_or cs request 0

  abbrev stage : Stage
  stage = Asking request true

  abbrev table : List (Option Live)
  table = table_on d k slot l it.is stage l.awaited

  pub swap_next : request < length cs
  swap_next = subst (λ (z : Stage). HasNextRequest z cs) it.stage_is (k.sound.requests l.number (open_of l) (open_is d k slot l it.is))

  cown_is : slice_get cs request ≡ Some c0
  cown_is = got cs request 0 swap_next

  -- what the chains ask for
  pub swap_there : request < length (cowns_of (d.place slot))
  swap_there = subst (λ (z : Option Place). request < length (cowns_of z)) (sym (place_is d k slot l it.is)) swap_next

  pub swap_due : request ≡ exchanged_of (d.place slot)
  swap_due = sym (ap exchanged_of (place_is d k slot l it.is) ∙ ap (λ z. exchanged_at z cs) it.stage_is)

  unsettled : times c0 (take request cs) ≡ 0
  unsettled = fresh_at cs request c0 cown_is (cown_once d k slot c0 l it.is)

  below : c0 < length d.lists
  below = cown_there d k slot c0 l it.is (among cs request c0 cown_is)

  abbrev s : State
  s = state d

  abbrev longer : List ℕ
  longer = queue s c0 ++ (l.number ∷ [])

  abbrev t : State
  t = stepped (with_queue (with_stage s l.number (open_of l) stage) c0 longer)

  queue_here : queue t c0 ≡ longer
  queue_here = get_or-set_same s.queues c0 longer [] (omega (arith, below, queues_length d.live d.lists))

  queue_other : (c : ℕ) → c ≢ c0 → queue t c ≡ queue s c
  queue_other c n = get_or-set_other s.queues c0 c longer [] n

  settled_here : settled (at t l.number) ≡ take request cs
  settled_here = ap settled (put_here s l.number (open_of l) (Some (open_of (gone_on d k slot l it.is stage l.awaited))) (open_is d k slot l it.is))

  settled_was : settled (at s l.number) ≡ take request cs
  settled_was = ap settled (open_is d k slot l it.is) ∙ ap (λ z. settled_at z cs) it.stage_is

  settled_other : (who : ℕ) → who ≢ l.number → settled (at t who) ≡ settled (at s who)
  settled_other who n = ap settled (put_others s l.number (Some (open_of (gone_on d k slot l it.is stage l.awaited))) who n)

  granted_here : (c : ℕ) → is_granted (at t) (queue t) l.number c ≡ is_granted (at s) (queue s) l.number c
  granted_here c =
      elim (same_or_not c c0) [
        | inl e ↦
            let none : times c (take request cs) ≡ 0 = ap (λ z. times z (take request cs)) e ∙ unsettled in
            ap (λ xs. nat_lt 0 (times c xs) && is_first l.number (queue t c)) settled_here
            ∙ ap (λ n. nat_lt 0 n && is_first l.number (queue t c)) none
            ∙ sym (ap (λ xs. nat_lt 0 (times c xs) && is_first l.number (queue s c)) settled_was
            ∙ ap (λ n. nat_lt 0 n && is_first l.number (queue s c)) none)
        | inr n ↦ granted_same s t l.number c (settled_here ∙ sym settled_was) (queue_other c n)
      ]

  granted_other : (who c : ℕ) → who ≢ l.number → is_granted (at t) (queue t) who c ≡ is_granted (at s) (queue s) who c
  granted_other who c n =
      elim (same_or_not c c0) [
        | inl e ↦
            let q : is_first who (queue t c) ≡ is_first who (queue s c) =
            ap (λ z. is_first who (queue t z)) e ∙ ap (is_first who) queue_here ∙ first_more who l.number (queue s c0) n
            ∙ ap (λ z. is_first who (queue s z)) (sym e) in
            λ i. nat_lt 0 (times c (settled_other who n i)) && q i
        | inr m ↦ granted_same s t who c (settled_other who n) (queue_other c m)
      ]

  counted_after : AreCounted t table
  counted_after =
      counted_on d k slot l it.is stage l.awaited t granted_other
      (λ h. k.counted slot l it.is (ap (λ z. enqueues_at z || waits_at z) it.stage_is)
      ∙ ap (λ z. count_by (λ c. cond (is_granted (at s) (queue s) l.number c) false true) cs + cond (enqueues_at z) 1 0) it.stage_is
      ∙ sym (awaits_same s t (gone_on d k slot l it.is stage l.awaited) granted_here))

  module _ (lists : List (List Request)) (place : ℕ → Option Place) (lists_are : lists ≡ with_change (with_fresh slot) d.lists (d.place slot) request)
      (place_here : place slot ≡ one_more (d.place slot)) (places_other : (r : ℕ) → r ≢ slot → place r ≡ d.place r) where
    abbrev after : Parts
    after = parts_on d k slot l it.is stage l.awaited lists place

    abbrev lists' : List (List Request)
    lists' = set d.lists c0 (with_fresh slot (get_or d.lists c0 []))

    lists_after : lists ≡ lists'
    lists_after = lists_are ∙ ap (λ z. with_change (with_fresh slot) d.lists z request) (place_is d k slot l it.is)

    queues_after : queues_of d.live lists ≡ set s.queues c0 longer
    queues_after =
        ap (queues_of d.live) lists_after ∙ queues_put d.live d.lists c0 (with_fresh slot (get_or d.lists c0 []))
        ∙ ap (set s.queues c0)
        (map-append (λ (r : Request). number_at d.live r.slot) (get_or d.lists c0 []) (fresh slot ∷ [])
        ∙ ap (λ xs. xs ++ (number_at d.live slot ∷ [])) (sym (queue_at d.live d.lists c0))
        ∙ ap (λ o. queue s c0 ++ (option_map_or (λ z. z.number) o 0 ∷ [])) it.is)

    state_after : state after ≡ t
    state_after = state_on d k slot l it.is stage l.awaited lists place (ap ready_row_at it.stage_is) (set s.queues c0 longer) queues_after

    pub swap_steps : Swaps s l.number request (state after)
    swap_steps = record {
      this = open_of l;
      c = c0;
      due = record { is = open_is d k slot l it.is; stage_is = it.stage_is; cown = cown_is };
      gives = state_after;
    }

    kept_request : (c : ℕ) (r : Request) → IsRequestOf d.live c r → IsRequestOf table c r
    kept_request = same_marks d k slot l it.is stage l.awaited
        (λ c. (sym (ap (λ z. times c (settled_at z cs)) it.stage_is), sym (ap (λ z. times c (flagged_at z cs)) it.stage_is)))

    requests_after : (c j : ℕ) (r : Request) → slice_get (slice_index_or lists' c []) j ≡ Some r → IsRequestOf table c r
    requests_after c j r a =
        elim (same_or_not c c0) [
          | inl e ↦
              let b : slice_get (get_or d.lists c0 [] ++ (fresh slot ∷ [])) j ≡ Some r =
              ap (λ q. slice_get q j) (sym (ap (λ z. get_or lists' z []) e ∙ get_or-set_same d.lists c0 (with_fresh slot (get_or d.lists c0 [])) [] below))
              ∙ a in
              elim (got_push (get_or d.lists c0 []) j (fresh slot) r b) [
                | inl there ↦ kept_request c r (subst (λ (z : ℕ). IsRequestOf d.live z r) (sym e) (k.chained.requests c0 j r there))
                | inr is ↦ subst (λ (z : Request). IsRequestOf table c z) is.1 (record {
                  this = gone_on d k slot l it.is stage l.awaited;
                  is = here_on d k slot l it.is stage l.awaited;
                  settled_is = sym (ap (λ z. nat_lt 0 (times z (take request cs))) e ∙ ap (nat_lt 0) unsettled);
                  flagged_is = refl;
                })
              ]
          | inr n ↦ kept_request c r (k.chained.requests c j r
              (ap (λ q. slice_get q j) (sym (get_or-set_other d.lists c0 c (with_fresh slot (get_or d.lists c0 [])) [] n)) ∙ a))
        ]

    chained_after : AreChained table lists place
    chained_after = record {
      requests = subst (λ (ls : List (List Request)). (c j : ℕ) (r : Request) → slice_get (slice_index_or ls c []) j ≡ Some r → IsRequestOf table c r)
          (sym lists_after) requests_after;
      places = λ r. elim (same_or_not r slot) [
        | inl e ↦
            ap place e ∙ place_here ∙ ap one_more (place_is d k slot l it.is)
            ∙ ap (λ z. one_more (Some (record { cowns = cs; exchanged = exchanged_at z cs }))) it.stage_is
            ∙ (let n : request + 1 ≡ suc request = omega arith in ap (λ z. Some (record { cowns = cs; exchanged = z })) n)
            ∙ sym (ap (option_map place_of) (ap (live_at table) e ∙ here_on d k slot l it.is stage l.awaited))
        | inr n ↦
            places_other r n ∙ k.chained.places r
            ∙ sym (ap (option_map place_of) (live_other d.live slot (Some (gone_on d k slot l it.is stage l.awaited)) r n))
      ];
    }

    pub swap_keeps : IsKept after
    swap_keeps =
        kept_on d k slot l it.is stage l.awaited lists place (sym (ap row_at it.stage_is)) (sym (ap asks_at it.stage_is)) (sym (ap enqueues_at it.stage_is))
        (ap ready_row_at it.stage_is) chained_after (keeps_swaps d.program s l.number request (state after) k.sound swap_steps)
        (subst (λ (z : State). AreCounted z table) (sym state_after) counted_after)

    pub swap_rooms : (homes ready : ℕ) → HasRooms d homes ready → HasRooms after homes ready
    swap_rooms homes ready h = rooms_on d k slot l it.is stage l.awaited lists place (sym (ap asks_at it.stage_is)) homes ready h
