-- What is kept where a request is settled: its behaviour asks on, or its spawn is recorded.
use Rattle.std.proofs.Common.{◌≡◌, ◌≢◌, ℕ, zero, suc, ◌+◌, ◌-◌, ◌<◌, inl, inr, Bool, true, false, cond, ◌||◌, eqb, List, [], ◌∷◌, ◌++◌, length, set, refl, sym}
use Rattle.std.proofs.Common.{◌∙◌, ap, subst, arith, rules}
use Rattle.std.specs.Prelude.{slice_index_or, Option, Some}
use Rattle.std.proofs.lemmas.Bool.{lt-ltb, le-ltb, eqb-true, eqb-false}
use Rattle.std.proofs.lemmas.List.{set-get_or}
use Rattle.boc_runs.specs.declared.event.Event.TheVariants as events
use Rattle.boc_runs.specs.declared.stage.Stage.{Stage}
use Rattle.boc_runs.specs.declared.stage.Stage.TheVariants.{Asking, Recorded}
use Rattle.boc_runs.specs.machine.Stages.{row_at, ready_row_at, asks_at, enqueues_at, waits_at}
use Rattle.boc_runs.specs.machine.Steps.{State, stepped, noted, with_stage, flagging, members, asking_on, Settles, IsBlockedAsking}
use Rattle.boc_runs.specs.machine.Steps as steps
use Rattle.boc_runs.specs.machine.Sound.{IsSound}
use Rattle.boc_machine_laws.proofs.Asking.{take_whole}
use Rattle.boc_machine_laws.proofs.Keeps.{keeps_settles}
use Rattle.boc_chain.specs.declared.request.Request.{Request}
use Rattle.boc_chain.specs.declared.request.Settled.TheVariants.{Lone, Linked, Blocked}
use Rattle.boc_chain.specs.Chain.{Place, list_for, with_change, after_settle, settle_answer, settled_behind, before}
use Rattle.boc_dispatch.specs.declared.live.Live.{Live}
use Rattle.boc_dispatch.specs.Inside.{live_at, open_of, Parts, IsKept, HasRooms, state, IsAtStage, HasInHand, AreChained, AreCounted, awaits}
use Rattle.boc_dispatch.specs.Moves.{recorded, counted, MayRecord, Records}
use Rattle.boc_dispatch.specs.Places.{settled, with_row}
use Rattle.boc_dispatch.proofs.Flagged.{flagging_each}
use Rattle.boc_dispatch.proofs.Granting.{Tied, kept_of}
use Rattle.boc_dispatch.proofs.Going.{gone_on, table_on, here_on, parts_on, state_on, rooms_on, tied_gone, kept_on}
use Rattle.boc_dispatch.proofs.Priors.{IsFree, lone_none, linked_some, blocked_some, blocked_list}
use Rattle.boc_dispatch.proofs.Recording.{asks_no_row, tied_after, state_after, may_record, rooms_after, e_is}
use Rattle.boc_dispatch.proofs.Settled.{requests, first, due, list_is, free_before, first_alone, first_not, blocked, settle_next, settled_counts}
use Rattle.boc_dispatch.proofs.Settled.{settled_queues, settled_chained}
use Rattle.boc_dispatch.proofs.Standing.{place_is}
use Rattle.boc_dispatch.proofs.Tables.{live_other}

set_set : {A : Type 0} (xs : List A) (i : ℕ) (a b : A) → set (set xs i a) i b ≡ set xs i b
set_set [] i a b = refl
set_set (x ∷ xs) zero a b = refl
set_set (x ∷ xs) (suc i) a b = ap (λ z. x ∷ z) (set_set xs i a b)

-- who is before is flagged, and it is granted exactly where it is first
pub record IsOutcome (d : Parts) (k : IsKept d) (slot : ℕ) (l : Live) (request : ℕ) (it : IsAtStage d slot l (Asking request true)) (granted : ℕ) : Type 0 where
  pub free : IsFree (before slot (requests d k slot l request it))
  pub granted_is : granted ≡ cond (first d k slot l request it) 1 0

module _ (d : Parts) (k : IsKept d) (slot : ℕ) (l : Live) (request : ℕ) (it : IsAtStage d slot l (Asking request true)) where
  pub lone_outcome : (granted : ℕ) → Lone ≡ settle_answer slot (list_for d.lists (d.place slot) request) → granted ≡ 1 → IsOutcome d k slot l request it granted
  lone_outcome granted e g =
      let b = lone_none (before slot (requests d k slot l request it)) (e ∙ ap (settle_answer slot) (list_is d k slot l request it)) in
      let one : Bool → ℕ = λ x. cond x 1 0 in
      record { free = subst IsFree (sym b) tt; granted_is = g ∙ ap one (sym (first_alone d k slot l request it b)) }

  pub linked_outcome : (granted : ℕ) → Linked ≡ settle_answer slot (list_for d.lists (d.place slot) request) → granted ≡ 0
      → IsOutcome d k slot l request it granted
  linked_outcome granted e g =
      let b = linked_some (before slot (requests d k slot l request it)) (e ∙ ap (settle_answer slot) (list_is d k slot l request it)) in
      let one : Bool → ℕ = λ x. cond x 1 0 in
      record { free = subst IsFree (sym b.1) b.2; granted_is = g ∙ ap one (sym (first_not d k slot l request it b.0 b.1)) }

-- the parts once the chains and one place of the table have changed, before the step is counted
abbrev pub changed_parts : Parts → List (List Request) → (ℕ → Option Place) → ℕ → Option Live → Parts
changed_parts d lists place slot new = record d { lists = lists; place = place; live = set d.live slot new }

-- a request that its chain settled: what the chains have then, and what its behaviour is
pub record SettledRequest : Type 0 where
  pub d : Parts
  pub k : IsKept d
  pub slot : ℕ
  pub l : Live
  pub request : ℕ
  pub it : IsAtStage d slot l (Asking request true)
  pub granted : ℕ
  pub out : IsOutcome d k slot l request it granted
  pub lists : List (List Request)
  pub place : ℕ → Option Place
  pub lists_are : lists ≡ with_change (after_settle slot) d.lists (d.place slot) request
  pub places_are : (r : ℕ) → place r ≡ d.place r
  pub new : Option Live
  pub new_is : Some (settled request granted l) ≡ new

module _ (x : SettledRequest) where
  open x use {d, k, slot, l, request, it, granted, out, lists, place, lists_are, places_are, new, new_is}

  abbrev changed : Parts
  changed = changed_parts d lists place slot new

  abbrev cs : List ℕ
  cs = l.cowns.items

  abbrev s : State
  s = state d

  abbrev asking : Stage
  asking = Asking (suc request) false

  abbrev awaited : ℕ
  awaited = l.awaited - granted

  -- the behaviour asks on
  abbrev pub on : Live
  on = gone_on d k slot l it.is asking awaited

  abbrev pub mid : Parts
  mid = parts_on d k slot l it.is asking awaited lists place

  mid_state : state mid ≡ stepped (with_stage s l.number (open_of l) asking)
  mid_state =
      state_on d k slot l it.is asking awaited lists place (ap ready_row_at it.stage_is) s.queues
      (settled_queues d k slot l request it awaited out.free lists place lists_are places_are)

  -- it settles this request, whatever state that gives
  settles_so : (t : State) → t ≡ stepped (steps.asking_on d.program s l.number (open_of l) (suc request)) → Settles d.program s l.number request t
  settles_so t gives = record {
    this = open_of l;
    c = slice_index_or cs request 0;
    due = due d k slot l request it;
    free = free_before d k slot l request it out.free;
    gives = gives;
  }

  chained_on : AreChained (table_on d k slot l it.is asking awaited) lists place
  chained_on = settled_chained d k slot l request it awaited out.free lists place lists_are places_are

  -- ---- it wasn't the last

  module _ (more : suc request < length cs) where
    pub settles_on : Settles d.program s l.number request (state mid)
    settles_on = settles_so (state mid) (mid_state ∙ ap (λ b. stepped
        (cond b (with_stage s l.number (open_of l) asking) (steps.with_spawn d.program s l.number (open_of l)))) (sym (lt-ltb (suc request) (length cs) more)))

    pub settled_on_kept : IsKept mid
    settled_on_kept =
        kept_on d k slot l it.is asking awaited lists place (sym (ap row_at it.stage_is)) (sym (ap asks_at it.stage_is)) (sym (ap enqueues_at it.stage_is))
        (ap ready_row_at it.stage_is) chained_on (keeps_settles d.program s l.number request (state mid) k.sound settles_on)
        (subst (λ (z : State). AreCounted z (table_on d k slot l it.is asking awaited)) (sym mid_state)
        (settled_counts d k slot l request it granted out.granted_is asking refl refl))

  pub mid_rooms : (homes ready : ℕ) → HasRooms d homes ready → HasRooms mid homes ready
  mid_rooms homes ready h = rooms_on d k slot l it.is asking awaited lists place (sym (ap asks_at it.stage_is)) homes ready h

  mid_tied : Tied mid
  mid_tied =
      tied_gone d k slot l it.is asking awaited lists place (sym (ap row_at it.stage_is)) (sym (ap asks_at it.stage_is)) (sym (ap enqueues_at it.stage_is))
      (ap ready_row_at it.stage_is) chained_on

  -- ---- it was the last, and its parent has it in hand

  module _ (last : suc request ≡ length cs) (parent : ℕ) (held : HasInHand d parent (Some slot)) where
    abbrev pub p : Live
    p = held.this

    pub apart_from : parent ≢ slot
    apart_from e =
        let same : l ≡ p = (let f : Some l ≡ Some p = sym it.is ∙ ap (live_at d.live) (sym e) ∙ held.is in cc) in
        let h = k.in_hand.children parent slot p held.is held.child_is in
        asks_no_row l.stage h.child.parent (ap asks_at it.stage_is) (ap (λ z. row_at z.stage) same ∙ h.parent_is)

    some : 0 < length (members d.program (state mid))
    some = k.sound.some

    p_is : live_at mid.live parent ≡ Some p
    p_is = live_other d.live slot (Some on) parent apart_from ∙ held.is

    l_is : live_at mid.live slot ≡ Some on
    l_is = here_on d k slot l it.is asking awaited

    asks_is : on.stage ≡ Asking (length cs) false
    asks_is = ap (λ (n : ℕ). Asking n false) last

    abbrev pub end : Parts
    end = recorded mid parent slot p on

    -- with this row
    abbrev with_row_of : ℕ → State
    with_row_of row = stepped (noted (with_stage s l.number (open_of l) (Recorded row (flagging cs 0)))
        (events.Spawn row l.parent l.offset (record { items = cs })))

    end_state : state end ≡ with_row_of (steps.recorded d.program s)
    end_state =
        state_after mid mid_tied some parent slot p on p_is l_is held.child_is asks_is
        ∙ ap (λ z. steps.with_spawn d.program z l.number (open_of on)) mid_state
        ∙ (λ i. record {
          log = s.log ++ (events.Spawn (steps.recorded d.program s) l.parent l.offset (record { items = cs }) ∷ []);
          behaviours = set_set s.behaviours l.number (Some (open_of on))
              (Some (record { parent = l.parent; offset = l.offset; cowns = cs; stage = Recorded (steps.recorded d.program s) (flagging cs 0) })) i;
          queues = s.queues;
          ready = s.ready;
          steps = s.steps + 1;
        })

    pub settles_last : Settles d.program s l.number request (state end)
    settles_last = settles_so (state end) (end_state ∙ ap
        (λ b. stepped (cond b (with_stage s l.number (open_of l) asking) (steps.with_spawn d.program s l.number (open_of l))))
        (sym (le-ltb (suc request) (length cs) (omega (arith, last)))))

    sound_end : IsSound d.program (state end)
    sound_end = keeps_settles d.program s l.number request (state end) k.sound settles_last

    pub may_settle : (homes ready : ℕ) → HasRooms d homes ready → MayRecord changed homes parent slot
    may_settle homes ready h =
        let m = may_record mid mid_tied some parent slot p on p_is l_is held.child_is asks_is homes ready (mid_rooms homes ready h) sound_end.run in
        subst (λ (o : Option Live). MayRecord (changed_parts d lists place slot o) homes parent slot) new_is (search rules)

    last_parts : (e : Parts) → Records (counted changed) parent slot e → e ≡ end
    last_parts e h =
        let r : Records (counted (changed_parts d lists place slot (Some on))) parent slot e =
        subst (λ (o : Option Live). Records (counted (changed_parts d lists place slot o)) parent slot e) (sym new_is) h in
        r p on p_is l_is

    pub end_rooms : (homes ready : ℕ) → HasRooms d homes ready → HasRooms end homes ready
    end_rooms homes ready h = rooms_after mid mid_tied some parent slot p on p_is l_is held.child_is asks_is homes ready (mid_rooms homes ready h)

    abbrev row_stage : Stage
    row_stage = Recorded (length d.homes) (flagging cs 0)

    counts : AreCounted (with_row_of (length d.homes)) (table_on d k slot l it.is row_stage awaited)
    counts = settled_counts d k slot l request it granted out.granted_is row_stage
        (sym (take_whole cs (suc request) (omega (arith, last)))) (flagging_each (length d.homes) (λ z. enqueues_at z ≡ true) cs 0 (λ h. refl) (λ h. refl))

    counted_end : AreCounted (with_row_of (length d.homes)) end.live
    counted_end r x a h =
        elim (e_is mid mid_tied some parent slot p on p_is l_is held.child_is asks_is r x a) [
          | inl u ↦ subst (λ (z : Live). (enqueues_at z.stage || waits_at z.stage) ≡ true → z.awaited ≡ awaits (with_row_of (length d.homes)) z) (sym u.1)
              (counts slot (with_row (length d.homes) on) (here_on d k slot l it.is row_stage awaited)) h
          | inr v ↦ elim v [
            | inl u ↦ subst (λ (z : Live). (enqueues_at z.stage || waits_at z.stage) ≡ true → z.awaited ≡ awaits (with_row_of (length d.homes)) z) (sym u.1)
                (counts parent p (live_other d.live slot (Some (gone_on d k slot l it.is row_stage awaited)) parent apart_from ∙ held.is)) h
            | inr u ↦ counts r x (live_other d.live slot (Some (gone_on d k slot l it.is row_stage awaited)) r u.0
                ∙ sym (live_other d.live slot (Some on) r u.0) ∙ u.2) h
          ]
        ]

    pub settled_last_kept : IsKept end
    settled_last_kept =
        kept_of end (tied_after mid mid_tied some parent slot p on p_is l_is held.child_is asks_is) sound_end
        (subst (λ (z : State). AreCounted z end.live) (ap with_row_of k.homes_are ∙ sym end_state) counted_end)

  -- ---- it asks on, or its spawn is recorded

  module _ (parent : ℕ) (held : HasInHand d parent (Some slot)) (e : Parts) (is_last : Bool) (last_is : is_last ≡ eqb (suc request) (length cs))
      (asks : is_last ≡ false → e ≡ counted changed) (records : is_last ≡ true → Records (counted changed) parent slot e) where
    either : (P : Parts → Type 0) → (suc request < length cs → P mid) → ((last : suc request ≡ length cs) → P (end last parent held)) → P e
    either P more over =
        elim is_last as (λ b. is_last ≡ b → P e) [
          | true ↦ λ f.
              let last = eqb-true (suc request) (length cs) (sym last_is ∙ f) in
              subst P (sym (last_parts last parent held e (records f))) (over last)
          | false ↦ λ f.
              let other = eqb-false (suc request) (length cs) (sym last_is ∙ f) in
              let low = settle_next d k slot l request it in
              subst P (sym (asks f ∙ ap (λ o. counted (changed_parts d lists place slot o)) (sym new_is))) (more (omega arith))
        ] refl

    pub settled_kept : IsKept e
    settled_kept = either IsKept settled_on_kept (λ last. settled_last_kept last parent held)

    pub settled_rooms : (homes ready : ℕ) → HasRooms d homes ready → HasRooms e homes ready
    settled_rooms homes ready h = either (λ z. HasRooms z homes ready) (λ more. mid_rooms homes ready h) (λ last. end_rooms last parent held homes ready h)

    pub settled_steps : Settles d.program s l.number request (state e) × (e.program ≡ d.program)
    settled_steps = either (λ z. Settles d.program s l.number request (state z) × (z.program ≡ d.program)) (λ more. (settles_on more, refl))
        (λ last. (settles_last last parent held, refl))

-- with the rooms of the code's own vectors
pub rooms_in : (e : Parts) (homes ready homes' ready' : ℕ) → homes' ≡ homes → ready' ≡ ready → HasRooms e homes ready → HasRooms e homes' ready'
rooms_in e homes ready homes' ready' a b h = record { rooms = h.rooms; homes = omega (arith, a, h.homes); ready = omega (arith, b, h.ready); few = h.few }

-- ---- the one before is not flagged: nothing changes

module _ (d : Parts) (k : IsKept d) (slot : ℕ) (l : Live) (request : ℕ) (it : IsAtStage d slot l (Asking request true))
    (answer : Blocked ≡ settle_answer slot (list_for d.lists (d.place slot) request))
    (lists : List (List Request)) (place : ℕ → Option Place) (lists_are : lists ≡ with_change (after_settle slot) d.lists (d.place slot) request)
    (places_are : (r : ℕ) → place r ≡ d.place r) where
  abbrev q : List Request
  q = requests d k slot l request it

  before_it : (r : Request) × (before slot q ≡ Some r) × (r.flagged ≡ false)
  before_it = blocked_some (before slot q) (answer ∙ ap (settle_answer slot) (list_is d k slot l request it))

  lists_same : lists ≡ d.lists
  lists_same =
      lists_are ∙ ap (λ z. with_change (after_settle slot) d.lists z request) (place_is d k slot l it.is)
      ∙ ap (set d.lists (slice_index_or l.cowns.items request 0)) (ap (λ z. settled_behind z slot q) before_it.1 ∙ blocked_list before_it.0 slot q before_it.2)
      ∙ set-get_or d.lists (slice_index_or l.cowns.items request 0) []

  pub blocked_parts : record d { lists = lists; place = place } ≡ d
  blocked_parts = λ i. record d { lists = lists_same i; place = λ r. places_are r i }

  pub is_blocked : IsBlockedAsking (state d) l.number
  is_blocked = blocked d k slot l request it before_it.0 before_it.1 before_it.2
