use Rattle.std.proofs.Common.{◌≡◌, ◌≢◌, ◌∷◌, ◌++◌, [], ◌∙◌, ◌+◌, ◌^◌, ◌<◌, ◌≤◌, ℕ, set, List, ap, subst, sym, arith, length, length-set, replicate}
use Rattle.std.specs.Prelude.{Option, Some, None, vec_capacity}
use Rattle.std.specs.VecDeque.{deque_capacity}
use Rattle.boc_program.specs.declared.program.Program.{Program}
use Rattle.boc_program.specs.Programs.{cown_count, initial_values}
use Rattle.boc_runs.proofs.Behaviours.{initial-length}
use Rattle.boc_runs.specs.declared.event.Event.{Event}
use Rattle.boc_runs.specs.declared.event.Event.TheVariants.{Spawn}
use Rattle.boc_chain.specs.Chain.{Place}
use Rattle.boc_rules.specs.Log.{Log, grown}
use Rattle.boc_dispatch.specs.declared.live.Live.{Live}
use Rattle.boc_dispatch.specs.Inside.{Parts, state, live_at, IsKept, HasRooms}
use Rattle.boc_dispatch.proofs.Opened.{IsMain, opened_parts, opened_state, opened_keeps, opened_rooms, nothing_at}
use Rattle.boc_dispatch.proofs.Seated.{seat_same, seat_there, set_back}
use Rattle.boc_dispatch.proofs.roster.Roster.over.Given.{Over}
use Rattle.boc_dispatch.proofs.roster.Roster.over.Goals.{After-len, After-put}
use Rattle.boc_dispatch.proofs.roster.Roster.over.Goals as goal

-- the values are those that the cowns have at first
first_values : (g : Over) (c : After-len g) → c.in_ok-values.values.items ≡ initial_values c.args.program.now.cowns
first_values g c =
    c.in_ok-values.ensures ∙ ap initial_values c.as_slice.ensures ∙ ap (λ (p : Program). initial_values p.cowns) c.program.ensures

-- they are few
few_values : (g : Over) (c : After-len g) → c.len.result ≡ cown_count c.args.program.now.cowns
few_values g c =
    let few = c.args.program.now.few_cowns in
    let values = ap length (first_values g c) in
    omega (arith, initial-length c.args.program.now.cowns, c.len.ensures, c.in_ok-values.values.ok.0)

pub overflow_cast-len : goal.overflow_cast-len
overflow_cast-len g c =
    let few = c.args.program.now.few_cowns in
    omega (arith, few_values g (goal.at.overflow_cast-len g c).After-len)

pub new-requires : goal.new-requires
new-requires g c =
    let few = c.args.program.now.few_cowns in
    omega (arith, few_values g (goal.at.new-requires g c).After-len)

-- ---- the roster that is made

abbrev place : (g : Over) → After-put g → ℕ → Option Place
place g c = g.C.Chains.place c.admit_at.new.chains

main : (g : Over) (c : After-put g) → IsMain c.main_behaviour.result
main g c =
    let fresh = c.main_behaviour.ensures.fresh in
    record { behaviour = c.main_behaviour.ensures.behaviour; state = c.main_behaviour.ensures.state; number = fresh.0; spawned = fresh.2; child = fresh.3 }

-- the slab with main, and the table without it
abbrev seated : (g : Over) → After-put g → List (Option Live)
seated g c = c.insert_reserved.new.self.slots

abbrev table : (g : Over) → After-put g → List (Option Live)
table g c = set (seated g c) c.in_ok-slot.slot None

key_is : (g : Over) (c : After-put g) → c.insert_reserved.result ≡ c.in_ok-slot.slot
key_is g c = c.insert_reserved.ensures.key ∙ sym c.in_ok-slot.ensures.next

is_there : (g : Over) (c : After-put g) → live_at (seated g c) c.in_ok-slot.slot ≡ Some c.main_behaviour.result
is_there g c = subst (λ (k : ℕ). live_at (seated g c) k ≡ Some c.main_behaviour.result) (key_is g c) c.insert_reserved.ensures.updates.changed

nobody : (g : Over) (c : After-put g) (s : ℕ) → live_at c.next_slot.new.live.slots s ≡ None
nobody g c s = ap (λ (xs : List (Option Live)). live_at xs s) (c.next_slot.ensures.slots ∙ c.new-live.ensures.empty) ∙ nothing_at s

others_there : (g : Over) (c : After-put g) (s : ℕ) → s ≢ c.in_ok-slot.slot → live_at (seated g c) s ≡ live_at c.next_slot.new.live.slots s
others_there g c s n = c.insert_reserved.ensures.updates.others s (λ e. n (e ∙ key_is g c))

free : (g : Over) (c : After-put g) (s : ℕ) → live_at (table g c) s ≡ None
free g c s =
    seat_same c.next_slot.new.live.slots (seated g c) c.in_ok-slot.slot c.main_behaviour.result (is_there g c) (others_there g c) (nobody g c
    c.in_ok-slot.slot) s
    ∙ nobody g c s

room : (g : Over) (c : After-put g) → c.in_ok-slot.slot < length (table g c)
room g c = seat_there c.next_slot.new.live.slots (seated g c) c.in_ok-slot.slot c.main_behaviour.result (is_there g c) (others_there g c)
    (nobody g c c.in_ok-slot.slot)

here : (g : Over) (c : After-put g) → place g c c.in_ok-slot.slot ≡ Some (record { cowns = []; exchanged = 0 })
here g c =
    let no_cowns : c.new-2.result.items ≡ [] = c.new-2.ensures in
    c.in_ok-admit_at.ensures.here ∙ (λ i. Some (record { cowns = no_cowns i; exchanged = 0 }))

others : (g : Over) (c : After-put g) (s : ℕ) → s ≢ c.in_ok-slot.slot → place g c s ≡ None
others g c s n = c.in_ok-admit_at.ensures.other_places s n ∙ c.requires.none s

abbrev made : (g : Over) → After-put g → Parts
made g c = record {
  program = c.args.program.now;
  lists = g.C.Chains.lists c.admit_at.new.chains;
  place = place g c;
  live = seated g c;
  homes = c.push_reserved.new.self.items;
  ready = c.push_back_reserved.new.self.items;
  log = c.put.new.self;
  values = c.in_ok-values.values.items;
  opened = 1;
  gone = 0;
  steps = 0;
}

-- its parts are those of a program whose main is opened
made_is : (g : Over) (c : After-put g) → made g c ≡ opened_parts c.args.program.now (place g c) (table g c) c.in_ok-slot.slot
    c.main_behaviour.result (main g c) (free g c) (room g c) (here g c) (others g c)
made_is g c =
    let cowns = c.args.program.now.cowns in
    let slot : ℕ = c.in_ok-slot.slot in
    let lists_are : g.C.Chains.lists c.admit_at.new.chains ≡ replicate (cown_count cowns) [] = c.in_ok-admit_at.ensures.lists ∙ c.requires.empty in
    let values_are : c.in_ok-values.values.items ≡ initial_values cowns =
    c.in_ok-values.ensures ∙ ap initial_values c.as_slice.ensures ∙ ap (λ (p : Program). initial_values p.cowns) c.program.ensures in
    let many = ap length values_are in
    let count : c.len.result ≡ cown_count cowns = omega (arith, initial-length cowns, c.len.ensures, c.in_ok-values.values.ok.0) in
    let homes_were : c.in_ok-homes.homes.items ≡ [] = c.in_ok-homes.ensures.items in
    let homes_are : c.push_reserved.new.self.items ≡ slot ∷ [] = c.push_reserved.ensures.items ∙ ap (λ (xs : List ℕ). xs ++ slot ∷ []) homes_were in
    let ready_were : c.next_slot.new.ready.items ≡ [] = c.next_slot.ensures.ready ∙ c.new-ready.ensures.items in
    let ready_are : c.push_back_reserved.new.self.items ≡ slot ∷ [] = c.push_back_reserved.ensures.items ∙ ap (λ (xs : List ℕ). xs ++ slot ∷ []) ready_were in
    let live_is : seated g c ≡ set (table g c) slot (Some c.main_behaviour.result) = sym (set_back (seated g c) slot c.main_behaviour.result (is_there g c)) in
    let event : Event = Spawn 0 0 0 c.new-3.result in
    let begun : c.in_ok-log.log ≡ record { cowns = c.len.result; events = []; rooms = 0 } = c.in_ok-log.ensures in
    let roomy : c.make_room.new.self ≡ record c.in_ok-log.log { rooms = c.in_ok-log.log.rooms + 1 } = c.in_ok-make_room.ensures in
    let put : c.put.new.self ≡ grown c.make_room.new.self event = c.put.ensures in
    let event_cowns : c.new-3.result.items ≡ [] = c.new-3.ensures in
    let more : Log → Log = λ r. record r { rooms = r.rooms + 1 } in
    let log_is : c.put.new.self ≡ record { cowns = cown_count cowns; events = Spawn 0 0 0 (record { items = [] }) ∷ []; rooms = 0 } =
    put ∙ ap (λ (r : Log). grown r event) (roomy ∙ ap more begun)
    ∙ (λ i. record { cowns = count i; events = Spawn 0 0 0 (record { items = event_cowns i }) ∷ []; rooms = 0 }) in
    λ i. record (made g c) { lists = lists_are i; live = live_is i; homes = homes_are i; ready = ready_are i; log = log_is i; values = values_are i }

pub returns-clause-sound : goal.returns-clause-sound
returns-clause-sound g c =
    let s = (goal.at.returns-clause-sound g c).After-put in
    let homes = vec_capacity c.push_reserved.new.self in
    let ready = deque_capacity c.push_back_reserved.new.self in
    let homes_stay : homes ≡ vec_capacity c.in_ok-homes.homes = c.push_reserved.ensures.capacity in
    let homes_room : 1 ≤ vec_capacity c.in_ok-homes.homes = c.in_ok-homes.ensures.capacity in
    let one : 1 ≤ homes = omega arith in
    let fit : length (table g s) ≤ c.next_slot.new.live.capacity = omega (
      arith,
      length-set (seated g s) c.in_ok-slot.slot (let o : Option Live = None in o),
      c.capacity-room.ensures.slots,
      c.capacity-room.ensures.value,
      c.insert_reserved.ensures.capacity,
    ) in
    let wide : length (table g s) ≤ ready = omega (arith, fit, c.in_ok-slot.ensures.ready_room, c.push_back_reserved.ensures.capacity) in
    let few : length (table g s) ≤ 2 ^ 32 = omega (arith, fit, c.in_ok-slot.ensures.few) in
    record {
      kept = subst IsKept (sym (made_is g s)) (opened_keeps c.args.program.now (place g s) (table g s) c.in_ok-slot.slot c.main_behaviour.result (main g s)
          (free g s) (room g s) (here g s) (others g s));
      rooms = subst (λ (x : Parts). HasRooms x homes ready) (sym (made_is g s))
          (opened_rooms c.args.program.now (place g s) (table g s) c.in_ok-slot.slot c.main_behaviour.result (main g s) (free g s) (room g s)
          (here g s) (others g s) homes ready one wide few);
    }

pub returns-clause-opening : goal.returns-clause-opening
returns-clause-opening g c =
    let s = (goal.at.returns-clause-opening g c).After-put in
    ap state (made_is g s) ∙ opened_state c.args.program.now (place g s) (table g s) c.in_ok-slot.slot c.main_behaviour.result (main g s)
    (free g s) (room g s) (here g s) (others g s)
