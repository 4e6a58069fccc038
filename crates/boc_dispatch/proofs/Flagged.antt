-- A request is flagged.
use Rattle.std.proofs.Common.{◌≡◌, ℕ, zero, suc, ◌+◌, ◌<◌, ◌≤◌, Bool, true, false, cond, ◌||◌, ltb, List, [], ◌∷◌, length, map, set, take, get_or}
use Rattle.std.proofs.Common.{refl, sym, ◌∙◌, ap, subst, arith}
use Rattle.std.specs.Prelude.{slice_get, slice_index_or, nat_lt, Option, Some, None}
use Rattle.std.specs.Option.{option_map}
use Rattle.std.specs.List.{count_by}
use Rattle.std.proofs.lemmas.Bool.{ltb-false, ltb-true}
use Rattle.std.proofs.lemmas.Bool.Decides.{Decides-eqb, Decides-ltb}
use Rattle.boc_runs.specs.declared.stage.Phase.{Phase}
use Rattle.boc_runs.specs.declared.stage.Phase.TheVariants.{Flagging, Owning}
use Rattle.boc_runs.specs.declared.stage.Stage.{Stage}
use Rattle.boc_runs.specs.declared.stage.Stage.TheVariants.{Recorded}
use Rattle.boc_runs.specs.machine.Stages.{standing_at, settled_at, flagged_at, row_at, ready_row_at, asks_at, enqueues_at, waits_at, settled}
use Rattle.boc_runs.specs.machine.Queues.{times, is_granted}
use Rattle.boc_runs.specs.machine.Steps.{State, at, queue, stepped, with_stage, flagging, Flags}
use Rattle.boc_runs.specs.machine.Sound.{HasNextRequest}
use Rattle.boc_machine_laws.proofs.Lists.{not_eq, times-here}
use Rattle.boc_machine_laws.proofs.Asking.{taken_there, take_whole, among}
use Rattle.boc_machine_laws.proofs.Counting.{by_test}
use Rattle.boc_machine_laws.proofs.Core.{put_here, put_others}
use Rattle.boc_machine_laws.proofs.Keeps.{keeps_flags}
use Rattle.boc_chain.specs.declared.request.Request.{Request}
use Rattle.boc_chain.specs.Chain.{Place, cowns_of, list_for, with_change, with_flagged, flag_one, StandsIn}
use Rattle.boc_dispatch.specs.declared.live.Live.{Live}
use Rattle.boc_dispatch.specs.Inside.{live_at, open_of, place_of, Parts, IsKept, HasRooms, state, IsAtStage, AreCounted, AreChained, IsRequestOf, queues_of}
use Rattle.boc_dispatch.specs.Inside.{exchanged_at}
use Rattle.boc_dispatch.proofs.Standing.{open_is, place_is, stands_in, cown_there}
use Rattle.boc_dispatch.proofs.Going.{granted_same, awaits_same, queues_mapped, gone_on, table_on, counted_on, places_on, requests_on, parts_on}
use Rattle.boc_dispatch.proofs.Going.{state_on, rooms_on, kept_on}
use Rattle.boc_chain.proofs.Got.{got}

-- ---- a list and its places

pub taken_has : (cs : List ℕ) (i c : ℕ) → slice_get cs i ≡ Some c → 0 < times c (take (suc i) cs)
taken_has [] i c e = absurd (let f : None ≡ Some c = e in cc)
taken_has (d ∷ cs) zero c e =
    let is : d ≡ c = (let f : Some d ≡ Some c = e in cc) in
    omega (arith, ap (λ z. times c (z ∷ [])) is, times-here c [])
taken_has (d ∷ cs) (suc i) c e = omega (arith, taken_has cs i c e)

pub has_some : (n : ℕ) → 0 < n → nat_lt 0 n ≡ true
has_some n h = (Decides-ltb 0 n).1 h

pub or_none : (b : Bool) → (b || false) ≡ b
or_none true = refl
or_none false = refl

pub or_all : (b : Bool) → (b || true) ≡ true
or_all true = refl
or_all false = refl

-- ---- where a behaviour goes on flagging

pub flagging_each : (row : ℕ) (P : Stage → Type 0) (cs : List ℕ) (i : ℕ) → (i < length cs → P (Recorded row (Flagging i)))
    → (length cs ≤ i → P (Recorded row Owning)) → P (Recorded row (flagging cs i))
flagging_each row P cs i more over =
    by_test (λ (ph : Phase). P (Recorded row ph)) (ltb i (length cs)) (Flagging i) Owning (λ h. more (ltb-true i (length cs) h))
    (λ h. over (ltb-false i (length cs) h))

abbrev pub place_with : List ℕ → ℕ → Place
place_with cowns exchanged = record { cowns = cowns; exchanged = exchanged }

module _ (d : Parts) (k : IsKept d) (slot : ℕ) (l : Live) (row request : ℕ) (it : IsAtStage d slot l (Recorded row (Flagging request))) where
  abbrev cs : List ℕ
  cs = l.cowns.items

  abbrev c0 : ℕ
  c0 = slice_index_or cs request 0

  abbrev stage : Stage
  stage = Recorded row (flagging cs (suc request))

  pub flag_next : request < length cs
  flag_next = subst (λ (z : Stage). HasNextRequest z cs) it.stage_is (k.sound.requests l.number (open_of l) (open_is d k slot l it.is))

  cown_is : slice_get cs request ≡ Some c0
  cown_is = got cs request 0 flag_next

  -- what the chains ask for
  pub flag_there : request < length (cowns_of (d.place slot))
  flag_there = subst (λ (z : Option Place). request < length (cowns_of z)) (sym (place_is d k slot l it.is)) flag_next

  pub flag_stands : StandsIn (list_for d.lists (d.place slot) request) slot
  flag_stands =
      subst (λ (z : Option Place). StandsIn (list_for d.lists z request) slot) (sym (place_is d k slot l it.is))
      (omega (arith, stands_in d k slot c0 l it.is, ap (λ z. times c0 (standing_at z cs)) it.stage_is, among cs request c0 cown_is))

  flagged_is : flagged_at stage cs ≡ take (suc request) cs
  flagged_is = flagging_each row (λ z. flagged_at z cs ≡ take (suc request) cs) cs (suc request) (λ h. refl) (λ h. sym (take_whole cs (suc request) h))

  enqueues_is : enqueues_at stage ≡ true
  enqueues_is = flagging_each row (λ z. enqueues_at z ≡ true) cs (suc request) (λ h. refl) (λ h. refl)

  enqueues_same : enqueues_at stage ≡ enqueues_at l.stage
  enqueues_same = enqueues_is ∙ sym (ap enqueues_at it.stage_is)

  abbrev s : State
  s = state d

  abbrev t : State
  t = stepped (with_stage s l.number (open_of l) stage)

  granted_here : (c : ℕ) → is_granted (at t) (queue t) l.number c ≡ is_granted (at s) (queue s) l.number c
  granted_here c =
      granted_same s t l.number c
      (ap settled (put_here s l.number (open_of l) (Some (open_of (gone_on d k slot l it.is stage l.awaited))) (open_is d k slot l it.is))
      ∙ sym (ap settled (open_is d k slot l it.is) ∙ ap (λ z. settled_at z cs) it.stage_is)) refl

  counted_after : AreCounted t (table_on d k slot l it.is stage l.awaited)
  counted_after =
      counted_on d k slot l it.is stage l.awaited t
      (λ who c n. granted_same s t who c (ap settled (put_others s l.number (Some (open_of (gone_on d k slot l it.is stage l.awaited))) who n)) refl)
      (λ h. k.counted slot l it.is (ap (λ z. enqueues_at z || waits_at z) it.stage_is)
      ∙ ap (λ b. count_by (λ c. cond (is_granted (at s) (queue s) l.number c) false true) cs + cond b 1 0) (sym enqueues_same)
      ∙ sym (awaits_same s t (gone_on d k slot l it.is stage l.awaited) granted_here))

  same_places : (r : ℕ) → option_map place_of (live_at d.live r) ≡ option_map place_of (live_at (table_on d k slot l it.is stage l.awaited) r)
  same_places = places_on d k slot l it.is stage l.awaited (ap (place_with cs) (sym (ap (λ z. exchanged_at z cs) it.stage_is)))

  module _ (lists : List (List Request)) (place : ℕ → Option Place) (lists_are : lists ≡ with_change (with_flagged slot) d.lists (d.place slot) request)
      (places_are : (r : ℕ) → place r ≡ d.place r) where
    abbrev after : Parts
    after = parts_on d k slot l it.is stage l.awaited lists place

    lists_after : lists ≡ set d.lists c0 (map (flag_one slot) (get_or d.lists c0 []))
    lists_after = lists_are ∙ ap (λ z. with_change (with_flagged slot) d.lists z request) (place_is d k slot l it.is)

    state_after : state after ≡ t
    state_after =
        state_on d k slot l it.is stage l.awaited lists place (ap ready_row_at it.stage_is) s.queues
        (ap (queues_of d.live) lists_after ∙ queues_mapped d.live d.lists c0 (flag_one slot) (λ r. refl))

    pub flag_steps : Flags s l.number request (state after)
    flag_steps = record {
      this = open_of l;
      row = row;
      c = c0;
      due = record { is = open_is d k slot l it.is; stage_is = it.stage_is; cown = cown_is };
      gives = state_after;
    }

    chained_after : AreChained (table_on d k slot l it.is stage l.awaited) lists place
    chained_after = record {
      requests = subst (λ (ls : List (List Request)). (c j : ℕ) (r : Request) → slice_get (slice_index_or ls c []) j ≡ Some r
          → IsRequestOf (table_on d k slot l it.is stage l.awaited) c r) (sym lists_after)
          (requests_on d k slot l it.is stage l.awaited c0 (flag_one slot) (λ r. refl)
          (λ r n. λ i. record r { flagged = (ap (λ b. r.flagged || b) (not_eq r.slot slot n) ∙ or_none r.flagged) i })
          (λ r settles flags e. (
            settles ∙ ap (λ z. nat_lt 0 (times c0 (settled_at z cs))) it.stage_is,
            ap (λ b. r.flagged || b) ((Decides-eqb r.slot slot).1 e) ∙ or_all r.flagged
                ∙ sym (ap (λ z. nat_lt 0 (times c0 z)) flagged_is ∙ has_some (times c0 (take (suc request) cs)) (taken_has cs request c0 cown_is)),
          ))
          (λ c n. (
            sym (ap (λ z. times c (settled_at z cs)) it.stage_is),
            ap (times c) flagged_is ∙ taken_there cs request c0 c cown_is n ∙ sym (ap (λ z. times c (flagged_at z cs)) it.stage_is),
          ))
          (cown_there d k slot c0 l it.is (among cs request c0 cown_is)));
      places = λ r. places_are r ∙ k.chained.places r ∙ same_places r;
    }

    pub flag_keeps : IsKept after
    flag_keeps =
        kept_on d k slot l it.is stage l.awaited lists place (sym (ap row_at it.stage_is)) (sym (ap asks_at it.stage_is)) enqueues_same
        (ap ready_row_at it.stage_is) chained_after (keeps_flags d.program s l.number request (state after) k.sound flag_steps)
        (subst (λ (z : State). AreCounted z (table_on d k slot l it.is stage l.awaited)) (sym state_after) counted_after)

    pub flag_rooms : (homes ready : ℕ) → HasRooms d homes ready → HasRooms after homes ready
    flag_rooms homes ready h = rooms_on d k slot l it.is stage l.awaited lists place (sym (ap asks_at it.stage_is)) homes ready h
