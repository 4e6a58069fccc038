-- What a dispatcher has in hand at first.
use Rattle.std.proofs.Common.{◌≡◌, ◌≢◌, ℕ, zero, suc, ◌^◌, ◌<◌, ◌≤◌, inl, inr, true, false, ◌||◌, List, [], ◌∷◌, length, map, set, replicate, refl, sym, ◌∙◌}
use Rattle.std.proofs.Common.{ap, subst, arith, length-set}
use Rattle.std.specs.Prelude.{slice_get, Option, Some, None}
use Rattle.std.specs.Option.{option_map, option_map_or}
use Rattle.boc_runs.specs.declared.event.Event.TheVariants.{Spawn}
use Rattle.boc_program.specs.declared.program.Program.{Program}
use Rattle.boc_runs.specs.declared.stage.Phase.TheVariants as phases
use Rattle.boc_runs.specs.declared.stage.Stage.TheVariants.{Recorded}
use Rattle.boc_program.specs.Programs.{cown_count, initial_values}
use Rattle.boc_runs.specs.Serial.{main_behaviour}
use Rattle.boc_runs.specs.Run.{waiting}
use Rattle.boc_runs.specs.machine.Stages.{OpenBehaviour, row_at, asks_at, enqueues_at, waits_at}
use Rattle.boc_runs.specs.machine.Steps.{unrecorded, opening_state}
use Rattle.boc_runs.specs.machine.Sound.{IsSound}
use Rattle.boc_machine_laws.proofs.Every.{opening_sound, no_queue}
use Rattle.boc_machine_laws.proofs.Lists.{same_or_not}
use Rattle.boc_chain.specs.declared.request.Request.{Request}
use Rattle.boc_chain.specs.Chain.{Place}
use Rattle.boc_dispatch.specs.declared.live.Live.{Live}
use Rattle.boc_dispatch.specs.Inside.{Parts, state, live_at, find_live, open_of, behaviour_of, place_of, exchanged_at, number_at, row_or_0, IsKept, HasRooms}
use Rattle.boc_dispatch.specs.Inside.{AreNumbered, IsMember}
use Rattle.boc_dispatch.proofs.Tables.{live_here, live_other, live_new, find_here, taken_added}
use Rattle.boc_dispatch.proofs.Quiet.{none_taken}

-- main, as it is opened
pub record IsMain (l : Live) : Type 0 where
  pub behaviour : behaviour_of l ≡ record { kind = 0; args = []; cowns = [] }
  pub state : open_of l ≡ record { parent = 0; offset = 0; cowns = []; stage = Recorded 0 phases.Ready }
  pub number : l.number ≡ 0
  pub spawned : l.spawned ≡ 0
  pub child : l.child ≡ None

no_queues : (live : List (Option Live)) (n : ℕ) → map (λ (q : List Request). map (λ r. number_at live r.slot) q) (replicate n []) ≡ replicate n []
no_queues live zero = refl
no_queues live (suc n) = ap (λ (qs : List (List ℕ)). [] ∷ qs) (no_queues live n)

module _ (p : Program) (place : ℕ → Option Place) (table : List (Option Live)) (slot : ℕ) (l : Live) (main : IsMain l)
    (free : (s : ℕ) → live_at table s ≡ None) (below : slot < length table)
    (here : place slot ≡ Some (record { cowns = []; exchanged = 0 })) (others : (s : ℕ) → s ≢ slot → place s ≡ None) where
  abbrev pub opened_parts : Parts
  opened_parts = record {
    program = p;
    lists = replicate (cown_count p.cowns) [];
    place = place;
    live = set table slot (Some l);
    homes = slot ∷ [];
    ready = slot ∷ [];
    log = record { cowns = cown_count p.cowns; events = Spawn 0 0 0 (record { items = [] }) ∷ []; rooms = 0 };
    values = initial_values p.cowns;
    opened = 1;
    gone = 0;
    steps = 0;
  }

  abbrev d : Parts
  d = opened_parts

  stage_is : l.stage ≡ Recorded 0 phases.Ready
  stage_is = ap (λ (b : OpenBehaviour). b.stage) main.state

  cowns_are : l.cowns.items ≡ []
  cowns_are = ap (λ (b : OpenBehaviour). b.cowns) main.state

  at_slot_is : live_at d.live slot ≡ Some l
  at_slot_is = live_here table slot (Some l) below

  only : (s : ℕ) (x : Live) → live_at d.live s ≡ Some x → (s ≡ slot) × (x ≡ l)
  only s x a =
      elim (live_new table slot (Some l) s x a) [
        | inl u ↦ (u.0, (let f : Some l ≡ Some x = u.1 in cc))
        | inr u ↦ absurd (let f : None ≡ Some x = sym (free s) ∙ u.1 in cc)
      ]

  numbered : AreNumbered d.live 1
  numbered = record {
    once = λ i j x y a b e. (only i x a).0 ∙ sym (only j y b).0;
    given = λ i x a. (let n = ap (λ (z : Live). z.number) (only i x a).1 ∙ main.number in omega arith);
  }

  found : find_live 0 d.live ≡ Some l
  found = ap (λ n. find_live n d.live) (sym main.number) ∙ find_here d.live slot l numbered.once at_slot_is

  pub opened_state : state d ≡ opening_state p
  opened_state = λ i. record {
    log = Spawn 0 0 0 (record { items = [] }) ∷ [];
    behaviours = (ap (option_map open_of) found ∙ ap Some main.state) i ∷ [];
    queues = no_queues d.live (cown_count p.cowns) i;
    ready = (ap (λ o. option_map_or (λ (x : Live). row_or_0 x.stage) o 0) at_slot_is ∙ ap row_or_0 stage_is) i ∷ [];
    steps = 0;
  }

  none_before : AreNumbered table 0
  none_before = record {
    once = λ i j x y a b e. absurd (let f : None ≡ Some x = sym (free i) ∙ a in cc);
    given = λ i x a. absurd (let f : None ≡ Some x = sym (free i) ∙ a in cc);
  }

  places_are : (s : ℕ) → place s ≡ option_map place_of (live_at d.live s)
  places_are s =
      elim (same_or_not s slot) [
        | inl h ↦
            ap place h ∙ here
            ∙ (λ i. Some (record {
              cowns = sym cowns_are i;
              exchanged = (ap length (sym cowns_are) ∙ sym (ap (λ st. exchanged_at st l.cowns.items) stage_is)) i;
            }))
            ∙ sym (ap (option_map place_of) (ap (live_at d.live) h ∙ at_slot_is))
        | inr n ↦ others s n ∙ sym (ap (option_map place_of) (live_other table slot (Some l) s n ∙ free s))
      ]

  member_is : (s row : ℕ) (x : Live) → live_at d.live s ≡ Some x → row_at x.stage ≡ Some row → IsMember (waiting main_behaviour ∷ []) x row
  member_is s row x a b =
      let u = only s x a in
      let same : row ≡ 0 = (let f : Some row ≡ Some 0 = sym b ∙ ap (λ (z : Live). row_at z.stage) u.1 ∙ ap row_at stage_is in cc) in
      subst (λ (z : Live). IsMember (waiting main_behaviour ∷ []) z row) (sym u.1)
      (subst (λ (n : ℕ). IsMember (waiting main_behaviour ∷ []) l n) (sym same)
      (record {
        member = waiting main_behaviour;
        is = refl;
        behaviour_is = sym main.behaviour;
        spawned_is = sym main.spawned;
      }))

  none_enqueues : (s : ℕ) (x : Live) → live_at d.live s ≡ Some x → enqueues_at x.stage ≡ true → ⊥
  none_enqueues s x a e =
      let f : false ≡ true = sym (ap (λ (z : Live). enqueues_at z.stage) (only s x a).1 ∙ ap enqueues_at stage_is) ∙ e in absurd cc

  pub opened_keeps : IsKept d
  opened_keeps = record {
    sound = subst (IsSound p) (sym opened_state) (opening_sound p);
    cowns_are = refl;
    values_are = refl;
    homes_are = refl;
    numbered = numbered;
    at_home = λ s row x a b.
        (let u = only s x a in
        let same : row ≡ 0 = (let f : Some row ≡ Some 0 = sym b ∙ ap (λ (z : Live). row_at z.stage) u.1 ∙ ap row_at stage_is in cc) in
        ap (slice_get (slot ∷ [])) same ∙ ap (λ z. Some z) (sym u.0));
    in_hand = record {
      children = λ home s x a e. absurd (let f : None ≡ Some s = sym (ap (λ (z : Live). z.child) (only home x a).1 ∙ main.child) ∙ e in cc);
      parents = λ s x a e. absurd (none_enqueues s x a e);
    };
    chained = record {
      requests = λ c j r a. absurd (let f : None ≡ Some r = sym (ap (λ q. slice_get q j) (no_queue (cown_count p.cowns) c)) ∙ a in cc);
      places = places_are;
    };
    of_run = record {
      recorded = member_is;
      asking = λ s x a e. absurd (let f : false ≡ true = sym (ap (λ (z : Live). asks_at z.stage) (only s x a).1 ∙ ap asks_at stage_is) ∙ e in cc);
    };
    counted = λ s x a e.
        absurd (let f : false ≡ true = sym (ap (λ (z : Live). enqueues_at z.stage || waits_at z.stage) (only s x a).1
        ∙ ap (λ st. enqueues_at st || waits_at st) stage_is) ∙ e in cc);
    ready_there = ready_is;
    left = (let none = none_taken table free in let one = taken_added table 0 slot l none_before (free slot) below main.number in omega arith);
  }
    where
      ready_is : (j s : ℕ) → slice_get (slot ∷ []) j ≡ Some s → (x : Live) × (row : ℕ) × (live_at d.live s ≡ Some x) × (x.stage ≡ Recorded row phases.Ready)
      ready_is zero s e = (let same : s ≡ slot = (let f : Some slot ≡ Some s = e in cc) in (l, 0, ap (live_at d.live) same ∙ at_slot_is, stage_is))
      ready_is (suc j) s e = absurd (let f : None ≡ Some s = e in cc)

  none_unrecorded : unrecorded (state d) ≡ 0
  none_unrecorded = ap unrecorded opened_state

  pub opened_rooms : (homes ready : ℕ) → 1 ≤ homes → length table ≤ ready → length table ≤ 2 ^ 32 → HasRooms d homes ready
  opened_rooms homes ready one long few =
      let none = none_unrecorded in
      let same = length-set table slot (Some l) in
      record { rooms = omega arith; homes = omega arith; ready = omega arith; few = omega (arith, same, few) }

-- an empty table has no behaviour
pub nothing_at : (s : ℕ) → live_at [] s ≡ None
nothing_at zero = refl
nothing_at (suc s) = refl
