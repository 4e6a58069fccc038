-- A request is settled.
use Rattle.std.proofs.Common.{◌≡◌, ◌≢◌, ℕ, suc, ◌+◌, ◌-◌, ◌<◌, ◌≤◌, inl, inr, Bool, true, false, cond, ◌&&◌, ◌||◌, eqb, List, [], ◌∷◌, ◌++◌, length, map, set}
use Rattle.std.proofs.Common.{take, get_or, refl, sym, ◌∙◌, ap, subst, arith}
use Rattle.std.specs.Prelude.{slice_get, slice_index_or, nat_lt, Option, Some, None}
use Rattle.std.specs.Option.{option_map, option_map_or}
use Rattle.std.proofs.lemmas.Bool.Decides.{Decides-eqb, Decides-ltb}
use Rattle.std.proofs.lemmas.List.{map-append}
use Rattle.boc_runs.specs.declared.stage.Stage.{Stage}
use Rattle.boc_runs.specs.declared.stage.Stage.TheVariants.{Asking}
use Rattle.boc_runs.specs.machine.Stages.{standing_at, settled_at, flagged_at, enqueues_at, waits_at, settled, flagged}
use Rattle.boc_runs.specs.machine.Queues.{times, is_granted, is_first}
use Rattle.boc_runs.specs.machine.Steps.{State, at, queue, stepped, with_stage, IsDue, IsFlaggedBefore, IsBlockedAsking}
use Rattle.boc_runs.specs.machine.Sound.{HasNextRequest}
use Rattle.boc_machine_laws.proofs.Lists.{same_or_not, not_eq, no_less}
use Rattle.boc_machine_laws.proofs.Asking.{fresh_at, among, taken_there}
use Rattle.boc_machine_laws.proofs.Core.{put_here, put_others}
use Rattle.boc_machine_laws.proofs.Lawful.{times-take-le}
use Rattle.boc_chain.proofs.Spelled.{times_same}
use Rattle.boc_chain.specs.declared.request.Request.{Request}
use Rattle.boc_chain.specs.Chain.{Place, cowns_of, list_for, with_change, after_settle, settle_one, before, slots, StandsIn}
use Rattle.boc_dispatch.specs.declared.live.Live.{Live}
use Rattle.boc_dispatch.specs.Inside.{live_at, open_of, place_of, number_at, Parts, IsKept, state, IsAtStage, AreCounted, AreChained, IsRequestOf, queues_of}
use Rattle.boc_dispatch.specs.Inside.{exchanged_at}
use Rattle.boc_dispatch.proofs.Counts.{failing, fails_less}
use Rattle.boc_dispatch.proofs.Flagged.{place_with, taken_has, has_some, or_none, or_all}
use Rattle.boc_dispatch.proofs.Going.{granted_same, queues_mapped, gone_on, table_on, counted_on, places_on, requests_on}
use Rattle.boc_dispatch.proofs.Priors.{IsFree, none_before, one_before, before_split, free_list, stands_behind}
use Rattle.boc_dispatch.proofs.Standing.{open_is, place_is, stands_in, lists_live, cown_there, cown_once}
use Rattle.boc_dispatch.proofs.Tables.{queue_at}
use Rattle.boc_chain.proofs.Got.{got}

-- ---- a split of a mapped list

pub record Splits (f : Request → ℕ) (q : List Request) (x y : ℕ) : Type 0 where
  pub ahead : List Request
  pub first : Request
  pub second : Request
  pub behind : List Request
  pub is : q ≡ ahead ++ (first ∷ (second ∷ behind))
  pub first_is : f first ≡ x
  pub second_is : f second ≡ y

split_mapped : (f : Request → ℕ) (q : List Request) (ahead : List ℕ) (x y : ℕ) (behind : List ℕ) → map f q ≡ ahead ++ (x ∷ (y ∷ behind)) → Splits f q x y
split_mapped f [] [] x y behind e = absurd cc
split_mapped f (r ∷ []) [] x y behind e = absurd cc
split_mapped f (r ∷ (z ∷ q)) [] x y behind e = record { ahead = []; first = r; second = z; behind = q; is = refl; first_is = cc; second_is = cc }
split_mapped f [] (a ∷ ahead) x y behind e = absurd cc
split_mapped f (r ∷ q) (a ∷ ahead) x y behind e =
    let g : f r ∷ map f q ≡ a ∷ (ahead ++ (x ∷ (y ∷ behind))) = e in
    let rest = split_mapped f q ahead x y behind (cc) in
    record {
      ahead = r ∷ rest.ahead;
      first = rest.first;
      second = rest.second;
      behind = rest.behind;
      is = ap (λ z. r ∷ z) rest.is;
      first_is = rest.first_is;
      second_is = rest.second_is;
    }

first_in : (ahead : List Request) (r : Request) (behind : List Request) → slice_get (ahead ++ (r ∷ behind)) (length ahead) ≡ Some r
first_in [] r behind = refl
first_in (x ∷ ahead) r behind = first_in ahead r behind

second_in : (ahead : List Request) (r x : Request) (behind : List Request) → slice_get (ahead ++ (r ∷ (x ∷ behind))) (suc (length ahead)) ≡ Some x
second_in [] r x behind = refl
second_in (y ∷ ahead) r x behind = second_in ahead r x behind

no_more_than_one : (n : ℕ) → nat_lt 0 n ≡ false → n ≡ 0
no_more_than_one n e = no_less n (λ h. let f : false ≡ true = sym e ∙ (Decides-ltb 0 n).1 h in cc)

module _ (d : Parts) (k : IsKept d) (slot : ℕ) (l : Live) (request : ℕ) (it : IsAtStage d slot l (Asking request true)) where
  abbrev cs : List ℕ
  cs = l.cowns.items

  abbrev c0 : ℕ
  c0 = slice_index_or cs request 0

  abbrev pub requests : List Request
  requests = slice_index_or d.lists c0 []

  abbrev s : State
  s = state d

  pub settle_next : request < length cs
  settle_next = subst (λ (z : Stage). HasNextRequest z cs) it.stage_is (k.sound.requests l.number (open_of l) (open_is d k slot l it.is))

  pub cown_is : slice_get cs request ≡ Some c0
  cown_is = got cs request 0 settle_next

  pub due : IsDue s l.number (open_of l) (Asking request true) request c0
  due = record { is = open_is d k slot l it.is; stage_is = it.stage_is; cown = cown_is }

  -- what the chains ask for
  pub settle_there : request < length (cowns_of (d.place slot))
  settle_there = subst (λ (z : Option Place). request < length (cowns_of z)) (sym (place_is d k slot l it.is)) settle_next

  stands_is : times slot (slots requests) ≡ times c0 (take (suc request) cs)
  stands_is = stands_in d k slot c0 l it.is ∙ ap (λ z. times c0 (standing_at z cs)) it.stage_is

  stands_some : 0 < times slot (slots requests)
  stands_some = omega (arith, stands_is, taken_has cs request c0 cown_is)

  stands_once : times slot (slots requests) ≤ 1
  stands_once = omega (arith, stands_is, times-take-le c0 (suc request) cs, cown_once d k slot c0 l it.is)

  pub list_is : list_for d.lists (d.place slot) request ≡ requests
  list_is = ap (λ z. list_for d.lists z request) (place_is d k slot l it.is)

  pub settle_stands : StandsIn (list_for d.lists (d.place slot) request) slot
  settle_stands = subst (λ (z : List Request). 0 < times slot (slots z)) (sym list_is) stands_some

  -- the request of who is there, and that behaviour
  flagged_there : (r : Request) (j : ℕ) → slice_get requests j ≡ Some r → nat_lt 0 (times c0 (flagged (at s (number_at d.live r.slot)))) ≡ r.flagged
  flagged_there r j a =
      let h = k.chained.requests c0 j r a in
      ap (λ o. nat_lt 0 (times c0 (flagged (at s (option_map_or (λ z. z.number) o 0))))) h.is
      ∙ ap (λ o. nat_lt 0 (times c0 (flagged o))) (open_is d k r.slot h.this h.is) ∙ sym h.flagged_is

  number_here : number_at d.live slot ≡ l.number
  number_here = ap (λ o. option_map_or (λ z. z.number) o 0) it.is

  slot_of : (r : Request) (j : ℕ) → slice_get requests j ≡ Some r → number_at d.live r.slot ≡ l.number → r.slot ≡ slot
  slot_of r j a e =
      let h = lists_live d k c0 j r a in
      k.numbered.once r.slot slot h.0 l h.1 it.is (sym (ap (λ o. option_map_or (λ z. z.number) o 0) h.1) ∙ e)

  -- where whoever is before it is flagged, it may be settled
  pub free_before : IsFree (before slot requests) → IsFlaggedBefore s c0 l.number
  free_before free ahead behind x e =
      let p = split_mapped (λ r. number_at d.live r.slot) requests ahead x l.number behind (sym (queue_at d.live d.lists c0) ∙ e) in
      let first = ap (λ q. slice_get q (length p.ahead)) p.is ∙ first_in p.ahead p.first (p.second ∷ p.behind) in
      let second = ap (λ q. slice_get q (suc (length p.ahead))) p.is ∙ second_in p.ahead p.first p.second p.behind in
      let same = slot_of p.second (suc (length p.ahead)) second p.second_is in
      let b = before_split slot requests stands_some stands_once p.ahead p.first p.second p.behind p.is same in
      let marked : p.first.flagged ≡ true = subst IsFree b free in
      (Decides-ltb 0 (times c0 (flagged (at s x)))).0
      (ap (λ z. nat_lt 0 (times c0 (flagged (at s z)))) (sym p.first_is) ∙ flagged_there p.first (length p.ahead) first ∙ marked)

  pub blocked : (r : Request) → before slot requests ≡ Some r → r.flagged ≡ false → IsBlockedAsking s l.number
  blocked r e unmarked =
      let b = one_before slot requests stands_some stands_once r e in
      let number : Request → ℕ = λ z. number_at d.live z.slot in
      let first = ap (λ q. slice_get q (length b.ahead)) b.is ∙ first_in b.ahead r (b.this ∷ b.behind) in
      record {
        this = open_of l;
        request = request;
        c = c0;
        due = due;
        ahead = map number b.ahead;
        before = number r;
        behind = map number b.behind;
        stands = queue_at d.live d.lists c0 ∙ ap (map number) b.is ∙ map-append number b.ahead (r ∷ (b.this ∷ b.behind))
            ∙ ap (λ z. map number b.ahead ++ (number r ∷ (z ∷ map number b.behind))) (ap (number_at d.live) b.slot_is ∙ number_here);
        unflagged = no_more_than_one (times c0 (flagged (at s (number r)))) (flagged_there r (length b.ahead) first ∙ unmarked);
      }

  -- ---- whether it is granted by that

  -- it is first where none is before it
  pub first_alone : before slot requests ≡ None → is_first l.number (queue s c0) ≡ true
  first_alone e =
      let f = none_before slot requests stands_some stands_once e in
      let number : Request → ℕ = λ z. number_at d.live z.slot in
      ap (is_first l.number) (queue_at d.live d.lists c0 ∙ ap (map number) f.is)
      ∙ ap (λ n. eqb n l.number) (ap (number_at d.live) f.slot_is ∙ number_here) ∙ (Decides-eqb l.number l.number).1 refl

  front_apart : (ahead : List Request) (r x : Request) (behind : List Request) → requests ≡ ahead ++ (r ∷ (x ∷ behind)) → x.slot ≡ slot
      → is_first l.number (queue s c0) ≡ true → ⊥
  front_apart [] r x behind is same first =
      let first' : eqb (number_at d.live r.slot) l.number ≡ true =
      sym (ap (is_first l.number) (queue_at d.live d.lists c0 ∙ ap (map (λ z. number_at d.live z.slot)) is)) ∙ first in
      let e = slot_of r 0 (ap (λ q. slice_get q 0) is) ((Decides-eqb (number_at d.live r.slot) l.number).0 first') in
      let one : times slot (slots (r ∷ (x ∷ behind))) ≤ 1 = subst (λ (z : List Request). times slot (slots z) ≤ 1) is stands_once in
      let a = times_same slot r.slot (x.slot ∷ slots behind) e in
      let b = times_same slot x.slot (slots behind) same in
      absurd (omega arith)
  front_apart (y ∷ ahead) r x behind is same first =
      let first' : eqb (number_at d.live y.slot) l.number ≡ true =
      sym (ap (is_first l.number) (queue_at d.live d.lists c0 ∙ ap (map (λ z. number_at d.live z.slot)) is)) ∙ first in
      let e = slot_of y 0 (ap (λ q. slice_get q 0) is) ((Decides-eqb (number_at d.live y.slot) l.number).0 first') in
      let one : times slot (slots (y ∷ (ahead ++ (r ∷ (x ∷ behind))))) ≤ 1 = subst (λ (z : List Request). times slot (slots z) ≤ 1) is stands_once in
      let a = times_same slot y.slot (slots (ahead ++ (r ∷ (x ∷ behind)))) e in
      let b = stands_behind slot ahead r x behind same in
      absurd (omega arith)

  -- and not where one is
  pub first_not : (r : Request) → before slot requests ≡ Some r → is_first l.number (queue s c0) ≡ false
  first_not r e =
      let b = one_before slot requests stands_some stands_once r e in
      elim (is_first l.number (queue s c0)) as (λ x. is_first l.number (queue s c0) ≡ x → x ≡ false) [
        | true ↦ λ first. absurd (front_apart b.ahead r b.this b.behind b.is b.slot_is first)
        | false ↦ λ first. refl
      ] refl

  -- ---- it is settled: what each awaits

  abbrev pub first : Bool
  first = is_first l.number (queue s c0)

  unsettled : times c0 (take request cs) ≡ 0
  unsettled = fresh_at cs request c0 cown_is (cown_once d k slot c0 l it.is)

  settled_was : settled (at s l.number) ≡ take request cs
  settled_was = ap settled (open_is d k slot l it.is) ∙ ap (λ z. settled_at z cs) it.stage_is

  module _ (granted : ℕ) (granted_is : granted ≡ cond first 1 0) (stage : Stage) (settles : settled_at stage cs ≡ take (suc request) cs)
      (enqueued : enqueues_at stage ≡ true) where
    abbrev on : Live
    on = gone_on d k slot l it.is stage (l.awaited - granted)

    abbrev t : State
    t = stepped (with_stage s l.number (open_of l) stage)

    settled_here : settled (at t l.number) ≡ take (suc request) cs
    settled_here = ap settled (put_here s l.number (open_of l) (Some (open_of on)) (open_is d k slot l it.is)) ∙ settles

    granted_else : (c : ℕ) → c ≢ c0 → is_granted (at t) (queue t) l.number c ≡ is_granted (at s) (queue s) l.number c
    granted_else c n =
        let e = ap (times c) settled_here ∙ taken_there cs request c0 c cown_is n ∙ sym (ap (times c) settled_was) in
        ap (λ m. nat_lt 0 m && is_first l.number (queue s c)) e

    granted_was : is_granted (at s) (queue s) l.number c0 ≡ false
    granted_was = ap (λ m. nat_lt 0 m && first) (ap (times c0) settled_was ∙ unsettled)

    granted_now : is_granted (at t) (queue t) l.number c0 ≡ first
    granted_now = ap (λ z. nat_lt 0 (times c0 z) && first) settled_here
        ∙ ap (λ b. b && first) (has_some (times c0 (take (suc request) cs)) (taken_has cs request c0 cown_is))

    abbrev before_it : ℕ
    before_it = failing (λ c. is_granted (at s) (queue s) l.number c) cs

    abbrev after_it : ℕ
    after_it = failing (λ c. is_granted (at t) (queue t) l.number c) cs

    fewer : before_it ≡ after_it + granted
    fewer =
        elim first as (λ b. first ≡ b → before_it ≡ after_it + granted) [
          | true ↦ λ e.
              let less = fails_less (λ c. is_granted (at s) (queue s) l.number c) (λ c. is_granted (at t) (queue t) l.number c) c0 granted_else granted_was
              (granted_now ∙ e) cs in
              let one : Bool → ℕ = λ b. cond b 1 0 in
              let g : granted ≡ 1 = granted_is ∙ ap one e in
              let once = cown_once d k slot c0 l it.is in
              let some = among cs request c0 cown_is in
              omega arith
          | false ↦ λ e.
              let one : Bool → ℕ = λ b. cond b 1 0 in
              let g : granted ≡ 0 = granted_is ∙ ap one e in
              let each : (c : ℕ) → is_granted (at t) (queue t) l.number c ≡ is_granted (at s) (queue s) l.number c =
              (λ c. elim (same_or_not c c0) [
                | inl h ↦ ap (λ z. is_granted (at t) (queue t) l.number z) h ∙ granted_now ∙ e ∙ sym granted_was
                    ∙ ap (λ z. is_granted (at s) (queue s) l.number z) (sym h)
                | inr n ↦ granted_else c n
              ]) in
              let same : after_it ≡ before_it = (λ i. failing (λ c. each c i) cs) in
              omega (arith, g, same)
        ] refl

    awaited_was : l.awaited ≡ before_it + 1
    awaited_was =
        let one : Bool → ℕ = λ b. cond b 1 0 in
        let e : one (enqueues_at l.stage) ≡ 1 = ap one (ap enqueues_at it.stage_is) in
        k.counted slot l it.is (ap (λ z. enqueues_at z || waits_at z) it.stage_is) ∙ ap (λ n. before_it + n) e

    pub settle_fits : granted ≤ l.awaited
    settle_fits = omega (arith, awaited_was, fewer)

    pub settled_counts : AreCounted t (table_on d k slot l it.is stage (l.awaited - granted))
    settled_counts =
        counted_on d k slot l it.is stage (l.awaited - granted) t
        (λ who c n. granted_same s t who c (ap settled (put_others s l.number (Some (open_of on)) who n)) refl)
        (λ h.
        let one : Bool → ℕ = λ b. cond b 1 0 in
        let e : one (enqueues_at stage) ≡ 1 = ap one enqueued in
        let less : l.awaited - granted ≡ after_it + 1 = omega (arith, awaited_was, fewer) in
        less ∙ ap (λ n. after_it + n) (sym e))

  -- ---- what the chains then have

  abbrev asking : Stage
  asking = Asking (suc request) false

  module _ (awaited : ℕ) (free : IsFree (before slot requests)) (lists : List (List Request)) (place : ℕ → Option Place)
      (lists_are : lists ≡ with_change (after_settle slot) d.lists (d.place slot) request) (places_are : (r : ℕ) → place r ≡ d.place r) where
    lists_after : lists ≡ set d.lists c0 (map (settle_one slot) (get_or d.lists c0 []))
    lists_after =
        lists_are ∙ ap (λ z. with_change (after_settle slot) d.lists z request) (place_is d k slot l it.is)
        ∙ ap (set d.lists c0) (free_list (before slot requests) slot requests free)

    pub settled_queues : queues_of d.live lists ≡ s.queues
    settled_queues = ap (queues_of d.live) lists_after ∙ queues_mapped d.live d.lists c0 (settle_one slot) (λ r. refl)

    same_places : (r : ℕ) → option_map place_of (live_at d.live r) ≡ option_map place_of (live_at (table_on d k slot l it.is asking awaited) r)
    same_places = places_on d k slot l it.is asking awaited (ap (λ z. place_with cs (exchanged_at z cs)) (sym it.stage_is))

    pub settled_chained : AreChained (table_on d k slot l it.is asking awaited) lists place
    settled_chained = record {
      requests = subst (λ (ls : List (List Request)). (c j : ℕ) (r : Request) → slice_get (slice_index_or ls c []) j ≡ Some r
          → IsRequestOf (table_on d k slot l it.is asking awaited) c r) (sym lists_after)
          (requests_on d k slot l it.is asking awaited c0 (settle_one slot) (λ r. refl)
          (λ r n. λ i. record r { settled = (ap (λ b. r.settled || b) (not_eq r.slot slot n) ∙ or_none r.settled) i })
          (λ r settles flags e. (
            ap (λ b. r.settled || b) ((Decides-eqb r.slot slot).1 e) ∙ or_all r.settled
                ∙ sym (has_some (times c0 (take (suc request) cs)) (taken_has cs request c0 cown_is)),
            flags ∙ ap (λ z. nat_lt 0 (times c0 (flagged_at z cs))) it.stage_is,
          ))
          (λ c n. (
            taken_there cs request c0 c cown_is n ∙ sym (ap (λ z. times c (settled_at z cs)) it.stage_is),
            sym (ap (λ z. times c (flagged_at z cs)) it.stage_is),
          ))
          (cown_there d k slot c0 l it.is (among cs request c0 cown_is)));
      places = λ r. places_are r ∙ k.chained.places r ∙ same_places r;
    }
