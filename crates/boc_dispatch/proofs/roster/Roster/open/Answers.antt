use Rattle.std.proofs.Common.{◌≡◌, ◌≢◌, ◌∙◌, ◌+◌, ◌<◌, ◌≤◌, ℕ, List, length, set, refl, sym, ap, subst, arith, length-set}
use Rattle.std.specs.Prelude.{Option, Some, None, vec_capacity}
use Rattle.std.specs.VecDeque.{deque_capacity}
use Rattle.arrayvec.specs.ArrayVec.{ArrayVec}
use Rattle.boc_runs.specs.machine.Steps.{unrecorded}
use Rattle.boc_chain.specs.Chain.{Place, times}
use Rattle.boc_dispatch.specs.declared.live.Live.{Live}
use Rattle.boc_dispatch.specs.Inside.{Parts, parts_of, state, live_at, IsKept, HasRooms}
use Rattle.boc_dispatch.specs.Moves.{Puts}
use Rattle.boc_dispatch.proofs.ChildOpened.{admit_distinct, admit_in}
use Rattle.boc_dispatch.proofs.Opening.{unused_places, roomier, homes_left, free_of, longer, longer_kept, longer_rooms, IsPut, IsPutting, putting}
use Rattle.boc_dispatch.proofs.Tables.{SamePlaces, live_other}
use Rattle.boc_dispatch.proofs.Seated.{seat_same, seat_there}
use Rattle.boc_dispatch.proofs.Settling.{rooms_in}
use Rattle.boc_dispatch.proofs.roster.Roster.open.Given.{Over}
use Rattle.boc_dispatch.proofs.roster.Roster.open.Goals.{After-capacity-room}
use Rattle.boc_dispatch.proofs.roster.Roster.open.Goals as goal

pub overflow_sub-self : goal.overflow_sub-self
overflow_sub-self g c =
    let d = parts_of g.C.Chains.lists g.C.Chains.place c.args.self.now in
    omega (arith, homes_left d c.requires.sound.kept, c.args.self.now.homes.ok.0, c.len.ensures)

pub admit_at-requires : goal.admit_at-requires
admit_at-requires g c =
    let d = parts_of g.C.Chains.lists g.C.Chains.place c.args.self.now in
    let k = c.requires.sound.kept in
    let p = c.requires.runs.0 in
    let it = c.requires.runs.1 in
    let none = free_of d c.args.slot p it.is c.requires.free in
    let cowns_are = ap (λ (l : ArrayVec ℕ). l.items) c.widened.ensures.same in
    record {
      unused = unused_places d k;
      distinct = λ n. subst (λ (z : List ℕ). times n z ≤ 1) (sym cowns_are)
          (admit_distinct d k c.args.row c.args.slot p it none c.args.child c.requires.new c.requires.few n);
      in_range = λ n h. admit_in d k c.args.row c.args.slot p it none c.args.child c.requires.new c.requires.few n
          (subst (λ (z : List ℕ). 0 < times n z) cowns_are h);
    }

-- ---- what is there once the child is at its slot

abbrev was : (g : Over) → After-capacity-room g → Parts
was g c = parts_of g.C.Chains.lists g.C.Chains.place c.args.self.now

-- the slab with the child
abbrev seated : (g : Over) → After-capacity-room g → List (Option Live)
seated g c = c.insert_reserved.new.self.slots

abbrev place : (g : Over) → After-capacity-room g → ℕ → Option Place
place g c = g.C.Chains.place c.admit_at.new.chains

-- all of that, with nobody at the slot
abbrev before : (g : Over) → After-capacity-room g → Parts
before g c = record {
  program = c.args.self.now.program.now;
  lists = g.C.Chains.lists c.admit_at.new.chains;
  place = place g c;
  live = set (seated g c) c.in_ok-own.own None;
  homes = c.reserve.new.self.items;
  ready = c.next_slot.new.ready.items;
  log = c.make_room.new.self;
  values = c.args.self.now.values.items;
  opened = c.args.self.now.opened;
  gone = c.args.self.now.gone;
  steps = c.args.self.now.steps;
}

key_is : (g : Over) (c : After-capacity-room g) → c.insert_reserved.result ≡ c.in_ok-own.own
key_is g c = c.insert_reserved.ensures.key ∙ sym c.in_ok-own.ensures.next

is_there : (g : Over) (c : After-capacity-room g) → live_at (seated g c) c.in_ok-own.own ≡ Some c.args.child
is_there g c = subst (λ (k : ℕ). live_at (seated g c) k ≡ Some c.args.child) (key_is g c) c.insert_reserved.ensures.updates.changed

others : (g : Over) (c : After-capacity-room g) (s : ℕ) → s ≢ c.in_ok-own.own → live_at (seated g c) s ≡ live_at (was g c).live s
others g c s n = c.insert_reserved.ensures.updates.others s (λ e. n (e ∙ key_is g c)) ∙ ap (λ (xs : List (Option Live)). live_at xs s) c.next_slot.ensures.slots

before_is : (g : Over) (c : After-capacity-room g) → before g c
    ≡ record (was g c) { place = place g c; live = set (seated g c) c.in_ok-own.own None; log = roomier (was g c).log }
before_is g c =
    let lists_are : g.C.Chains.lists c.admit_at.new.chains ≡ (was g c).lists = c.in_ok-admit_at.ensures.lists in
    let homes_are : c.reserve.new.self.items ≡ (was g c).homes = c.reserve.ensures.items in
    let ready_are : c.next_slot.new.ready.items ≡ (was g c).ready = c.next_slot.ensures.ready in
    let log_is : c.make_room.new.self ≡ roomier (was g c).log = c.in_ok-make_room.ensures in
    λ i. record (before g c) { lists = lists_are i; homes = homes_are i; ready = ready_are i; log = log_is i }

free : (g : Over) (c : After-capacity-room g) → c.requires.runs.0.child ≡ None
free g c = free_of (was g c) c.args.slot c.requires.runs.0 c.requires.runs.1.is c.requires.free

place_own : (g : Over) (c : After-capacity-room g) → place g c c.in_ok-own.own ≡ Some (record { cowns = c.args.child.cowns.items; exchanged = 0 })
place_own g c = c.in_ok-admit_at.ensures.here ∙ ap (λ (l : ArrayVec ℕ). Some (record { cowns = l.items; exchanged = 0 })) c.widened.ensures.same

homes_fit : (g : Over) (c : After-capacity-room g) → length (was g c).homes + (unrecorded (state (was g c)) + 1) ≤ vec_capacity c.reserve.new.self
homes_fit g c = omega (
  arith,
  homes_left (was g c) c.requires.sound.kept,
  c.in_ok-reserve.ensures.ok,
  c.len.ensures,
  c.args.self.now.homes.ok.0,
  c.reserve.ensures.len,
)

-- the table has no more slots than there is space for
slots_fit : (g : Over) (c : After-capacity-room g) → length (set (seated g c) c.in_ok-own.own None) ≤ c.next_slot.new.live.capacity
slots_fit g c = omega (
  arith,
  length-set (seated g c) c.in_ok-own.own (let o : Option Live = None in o),
  c.capacity-room.ensures.slots,
  c.capacity-room.ensures.value,
  c.insert_reserved.ensures.capacity,
)

-- the child may be put in, and what follows
put : (g : Over) (c : After-capacity-room g) → IsPutting (was g c) c.args.row c.args.slot c.in_ok-own.own c.args.child (before g c)
    (vec_capacity c.reserve.new.self) (deque_capacity c.next_slot.new.ready)
put g c =
    let own = c.in_ok-own.own in
    let fit = slots_fit g c in
    putting (was g c) c.requires.sound.kept c.args.row c.args.slot c.requires.runs.0 c.requires.runs.1 (free g c) c.args.child c.requires.new c.requires.few
    (set (seated g c) own None)
    (seat_same (was g c).live (seated g c) own c.args.child (is_there g c) (others g c) c.in_ok-own.ensures.vacant) own c.in_ok-own.ensures.vacant
    (seat_there (was g c).live (seated g c) own c.args.child (is_there g c) (others g c) c.in_ok-own.ensures.vacant)
    (place g c) (place_own g c) c.in_ok-admit_at.ensures.other_places (vec_capacity c.reserve.new.self)
    (deque_capacity c.next_slot.new.ready) c.requires.sound.rooms.rooms (homes_fit g c) (omega (arith, fit, c.in_ok-own.ensures.ready_room))
    (omega (arith, fit, c.in_ok-own.ensures.few)) (before g c) (before_is g c)

pub put_child-requires : goal.put_child-requires
put_child-requires g c =
    let s = (goal.at.put_child-requires g c).After-capacity-room in
    (c.args.child, is_there g s, (put g s).may)

-- what follows once it is in its parent's hand
done : (g : Over) (c : After-capacity-room g) (e : Parts)
    → ((child this : Live) → live_at (seated g c) c.in_ok-own.own ≡ Some child → live_at (seated g c) c.args.slot ≡ Some this
    → Puts (before g c) c.args.slot c.in_ok-own.own child this e)
    → IsPut (was g c) c.args.row (vec_capacity c.reserve.new.self) (deque_capacity c.next_slot.new.ready) e
done g c e puts = (put g c).put e (λ this at. puts c.args.child this (is_there g c)
    (sym (live_other (seated g c) c.in_ok-own.own None c.args.slot (put g c).may.apart) ∙ at))

pub returns-clause-sound : goal.returns-clause-sound
returns-clause-sound g c =
    let s = (goal.at.returns-clause-sound g c).After-capacity-room in
    let after = parts_of g.C.Chains.lists g.C.Chains.place c.put_child.new.self in
    let q = done g s after c.put_child.ensures.puts in
    record {
      kept = q.kept;
      rooms = rooms_in after (vec_capacity c.reserve.new.self) (deque_capacity c.next_slot.new.ready) (vec_capacity c.put_child.new.self.homes)
          (deque_capacity c.put_child.new.self.ready) c.put_child.ensures.homes c.put_child.ensures.ready q.rooms;
    }

pub returns-clause-opens : goal.returns-clause-opens
returns-clause-opens g c =
    let s = (goal.at.returns-clause-opens g c).After-capacity-room in
    let q = done g s (parts_of g.C.Chains.lists g.C.Chains.place c.put_child.new.self) c.put_child.ensures.puts in
    let token = c.put_child.ensures.token c.args.child (is_there g s) in
    (q.opens, q.same, token.0 ∙ c.requires.new.number_is, token.1 ∙ c.requires.new.parent_is)

-- ---- where memory is refused

pub returns-in_err-own-clause-sound : goal.returns-in_err-own-clause-sound
returns-in_err-own-clause-sound g c =
    let d = parts_of g.C.Chains.lists g.C.Chains.place c.args.self.now in
    let k = c.requires.sound.kept in
    let same : SamePlaces d.live d.live = λ s. refl in
    let homes_are : c.reserve.new.self.items ≡ d.homes = c.reserve.ensures.items in
    let ready_are : c.next_slot.new.ready.items ≡ d.ready = c.next_slot.ensures.ready in
    let log_is : c.make_room.new.self ≡ roomier d.log = c.in_ok-make_room.ensures in
    let live_is : c.next_slot.new.live.slots ≡ d.live = c.next_slot.ensures.slots in
    let e : Parts = record d {
      live = c.next_slot.new.live.slots;
      homes = c.reserve.new.self.items;
      ready = c.next_slot.new.ready.items;
      log =
          c.make_room.new.self;
    } in
    let is : e ≡ longer d k d.live same = λ i. record d { live = live_is i; homes = homes_are i; ready = ready_are i; log = log_is i } in
    let homes' = vec_capacity c.reserve.new.self in
    let ready' = deque_capacity c.next_slot.new.ready in
    let h = c.requires.sound.rooms in
    record {
      kept = subst IsKept (sym is) (longer_kept d k d.live same);
      rooms = subst (λ (z : Parts). HasRooms z homes' ready') (sym is)
          (longer_rooms d k d.live same (vec_capacity c.args.self.now.homes) (deque_capacity c.args.self.now.ready) h homes' ready'
          c.reserve.ensures.capacity (omega (arith, h.ready, c.next_slot.ensures.grows)) h.few);
    }

pub returns-in_err-admit_at-clause-sound : goal.returns-in_err-admit_at-clause-sound
returns-in_err-admit_at-clause-sound g c =
    let d = parts_of g.C.Chains.lists g.C.Chains.place c.args.self.now in
    let k = c.requires.sound.kept in
    let same : SamePlaces d.live d.live = λ s. refl in
    let lists_are : g.C.Chains.lists c.admit_at.new.chains ≡ d.lists = c.in_err-admit_at.ensures.lists in
    let homes_are : c.reserve.new.self.items ≡ d.homes = c.reserve.ensures.items in
    let ready_are : c.next_slot.new.ready.items ≡ d.ready = c.next_slot.ensures.ready in
    let log_is : c.make_room.new.self ≡ roomier d.log = c.in_ok-make_room.ensures in
    let live_is : c.next_slot.new.live.slots ≡ d.live = c.next_slot.ensures.slots in
    let e : Parts = record d {
      lists = g.C.Chains.lists c.admit_at.new.chains;
      place = g.C.Chains.place c.admit_at.new.chains;
      live = c.next_slot.new.live.slots;
      homes = c.reserve.new.self.items;
      ready = c.next_slot.new.ready.items;
      log = c.make_room.new.self;
    } in
    let is : e ≡ longer d k d.live same = λ i. record d {
      lists = lists_are i;
      place = λ r. c.in_err-admit_at.ensures.err r i;
      live = live_is i;
      homes = homes_are i;
      ready = ready_are i;
      log = log_is i;
    } in
    let homes' = vec_capacity c.reserve.new.self in
    let ready' = deque_capacity c.next_slot.new.ready in
    let h = c.requires.sound.rooms in
    record {
      kept = subst IsKept (sym is) (longer_kept d k d.live same);
      rooms = subst (λ (z : Parts). HasRooms z homes' ready') (sym is)
          (longer_rooms d k d.live same (vec_capacity c.args.self.now.homes) (deque_capacity c.args.self.now.ready) h homes' ready'
          c.reserve.ensures.capacity (omega (arith, h.ready, c.next_slot.ensures.grows)) h.few);
    }
