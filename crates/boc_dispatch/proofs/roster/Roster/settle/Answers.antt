use Rattle.std.proofs.Common.{◌≡◌, ◌∙◌, ◌<◌, ◌≤◌, suc, eqb, true, false, sym, ap, subst, refl, length}
use Rattle.std.specs.Prelude.{Some, vec_capacity}
use Rattle.std.specs.VecDeque.{deque_capacity}
use Rattle.std.proofs.lemmas.Bool.{eqb-true}
use Rattle.boc_runs.specs.declared.stage.Stage.TheVariants.{Asking}
use Rattle.boc_dispatch.specs.declared.live.Live.{Live}
use Rattle.boc_dispatch.specs.Inside.{Parts, parts_of, state, underway, IsKept, HasRooms, IsAtStage}
use Rattle.boc_dispatch.specs.Places.{settled}
use Rattle.boc_dispatch.proofs.Fits.{steps_fit}
use Rattle.boc_dispatch.proofs.Settled.{settle_next, settle_there, settle_stands, settle_fits}
use Rattle.boc_dispatch.proofs.Settling.{IsOutcome, SettledRequest, lone_outcome, linked_outcome}
use Rattle.boc_dispatch.proofs.Settling.{may_settle, settled_kept, settled_rooms, settled_steps, rooms_in}
use Rattle.boc_dispatch.proofs.Settling.{blocked_parts, is_blocked}
use Rattle.boc_dispatch.proofs.Tables.{live_same, live_changed}
use Rattle.boc_dispatch.proofs.roster.Roster.settle.Given.{Over}
use Rattle.boc_dispatch.proofs.roster.Roster.settle.Goals.{After-index_mut, After-settle_next-is_last}
use Rattle.boc_dispatch.proofs.roster.Roster.settle.Goals as goal
use Rattle.boc_dispatch.proofs.roster.Roster.settle.Goals.{in-Lone, in-Linked}

pub settle-requires : goal.settle-requires
settle-requires g c =
    let d = parts_of g.C.Chains.lists g.C.Chains.place c.args.self.now in
    record {
      there = settle_there d c.requires.sound.kept c.args.slot c.requires.due.0 c.args.request c.requires.due.1;
      exchanged = settle_stands d c.requires.sound.kept c.args.slot c.requires.due.0 c.args.request c.requires.due.1;
    }

pub returns-in-Blocked-clause-sound : goal.returns-in-Blocked-clause-sound
returns-in-Blocked-clause-sound g c =
    let d = parts_of g.C.Chains.lists g.C.Chains.place c.args.self.now in
    let k = c.requires.sound.kept in
    let rooms = c.requires.sound.rooms in
    let same = blocked_parts d k c.args.slot c.requires.due.0 c.args.request c.requires.due.1 (sym c.in-Blocked.is ∙ c.settle.ensures.answer)
    (g.C.Chains.lists c.settle.new.self) (g.C.Chains.place c.settle.new.self) c.settle.ensures.lists c.settle.ensures.places in
    record {
      kept = subst IsKept (sym same) k;
      rooms = subst (λ (e : Parts). HasRooms e (vec_capacity c.args.self.now.homes) (deque_capacity c.args.self.now.ready)) (sym same) rooms;
    }

pub returns-in-Blocked-clause-settles : goal.returns-in-Blocked-clause-settles
returns-in-Blocked-clause-settles g c l it =
    let d = parts_of g.C.Chains.lists g.C.Chains.place c.args.self.now in
    let k = c.requires.sound.kept in
    let answer = sym c.in-Blocked.is ∙ c.settle.ensures.answer in
    let lists = g.C.Chains.lists c.settle.new.self in
    let place = g.C.Chains.place c.settle.new.self in
    let same = blocked_parts d k c.args.slot l c.args.request it answer lists place c.settle.ensures.lists c.settle.ensures.places in
    (ap underway same, is_blocked d k c.args.slot l c.args.request it answer lists place c.settle.ensures.lists c.settle.ensures.places)

-- whether it is granted is as the chain tells
out : (g : Over) (c : After-index_mut g) (l : Live)
    (it : IsAtStage (parts_of g.C.Chains.lists g.C.Chains.place c.args.self.now) c.args.slot l (Asking c.args.request true))
    → IsOutcome (parts_of g.C.Chains.lists g.C.Chains.place c.args.self.now) c.requires.sound.kept c.args.slot l c.args.request it c.match-settle.granted
out g c l it =
    let d = parts_of g.C.Chains.lists g.C.Chains.place c.args.self.now in
    elim c.match-settle.branch [
      | in-Lone w ↦ lone_outcome d c.requires.sound.kept c.args.slot l c.args.request it c.match-settle.granted (sym w.in-Lone.is ∙ c.settle.ensures.answer)
          w.granted-is
      | in-Linked w ↦ linked_outcome d c.requires.sound.kept c.args.slot l c.args.request it c.match-settle.granted
          (sym w.in-Linked.is ∙ c.settle.ensures.answer) w.granted-is
    ]

new_is : (g : Over) (c : After-settle_next-is_last g) (l : Live)
    → IsAtStage (parts_of g.C.Chains.lists g.C.Chains.place c.args.self.now) c.args.slot l (Asking c.args.request true)
    → Some (settled c.args.request c.match-settle.granted l) ≡ Some c.settle_next-is_last.new.self
new_is g c l it =
    live_changed (settled c.args.request c.match-settle.granted) c.args.self.now.live.slots c.args.slot l c.index_mut.result.now
    c.settle_next-is_last.new.self it.is c.index_mut.ensures.value c.settle_next-is_last.ensures.settles

is_last : (g : Over) (c : After-settle_next-is_last g) (l : Live)
    → IsAtStage (parts_of g.C.Chains.lists g.C.Chains.place c.args.self.now) c.args.slot l (Asking c.args.request true)
    → c.settle_next-is_last.result ≡ eqb (suc c.args.request) (length l.cowns.items)
is_last g c l it =
    subst (λ (x : Live). c.settle_next-is_last.result ≡ eqb (suc c.args.request) (length x.cowns.items))
    (live_same c.args.self.now.live.slots c.args.slot l c.index_mut.result.now it.is c.index_mut.ensures.value) c.settle_next-is_last.ensures.last

-- what its step does
abbrev given : (g : Over) (c : After-settle_next-is_last g) (l : Live)
    (it : IsAtStage (parts_of g.C.Chains.lists g.C.Chains.place c.args.self.now) c.args.slot l (Asking c.args.request true))
    → IsOutcome (parts_of g.C.Chains.lists g.C.Chains.place c.args.self.now) c.requires.sound.kept c.args.slot l c.args.request it c.match-settle.granted
    → SettledRequest
given g c l it told = record {
  d = parts_of g.C.Chains.lists g.C.Chains.place c.args.self.now;
  k = c.requires.sound.kept;
  slot = c.args.slot;
  l = l;
  request = c.args.request;
  it = it;
  granted = c.match-settle.granted;
  out = told;
  lists = g.C.Chains.lists c.settle.new.self;
  place = g.C.Chains.place c.settle.new.self;
  lists_are = c.settle.ensures.lists;
  places_are = c.settle.ensures.places;
  new = Some c.settle_next-is_last.new.self;
  new_is = new_is g c l it;
}

pub settle_next-is_last-requires : goal.settle_next-is_last-requires
settle_next-is_last-requires g c =
    let d = parts_of g.C.Chains.lists g.C.Chains.place c.args.self.now in
    let l = c.requires.due.0 in
    let it = c.requires.due.1 in
    let told = out g (goal.at.settle_next-is_last-requires g c).After-index_mut l it in
    let back = sym (live_same d.live c.args.slot l c.index_mut.result.now it.is c.index_mut.ensures.value) in
    record {
      low = subst (λ (x : Live). c.args.request < length x.cowns.items) back (settle_next d c.requires.sound.kept c.args.slot l c.args.request it);
      awaited = subst (λ (x : Live). c.match-settle.granted ≤ x.awaited) back
          (settle_fits d c.requires.sound.kept c.args.slot l c.args.request it c.match-settle.granted told.granted_is
          (Asking (suc c.args.request) false) refl refl);
    }

pub step_asking-requires-clause-fits : goal.step_asking-requires-clause-fits
step_asking-requires-clause-fits g c = steps_fit c.args.self.now.program.now (state (parts_of g.C.Chains.lists g.C.Chains.place c.args.self.now))
    c.requires.sound.kept.sound

pub step_asking-requires-clause-may : goal.step_asking-requires-clause-may
step_asking-requires-clause-may g c settles =
    let s = (goal.at.step_asking-requires-clause-may g c).After-settle_next-is_last in
    let l = c.requires.due.0 in
    let it = c.requires.due.1 in
    may_settle (given g s l it (out g (goal.at.step_asking-requires-clause-may g c).After-index_mut l it))
    (eqb-true (suc c.args.request) (length l.cowns.items) (sym (is_last g s l it) ∙ settles)) c.args.parent c.requires.held
    (vec_capacity c.args.self.now.homes) (deque_capacity c.args.self.now.ready) c.requires.sound.rooms

pub returns-clause-sound : goal.returns-clause-sound
returns-clause-sound g c =
    let s = (goal.at.returns-clause-sound g c).After-settle_next-is_last in
    let l = c.requires.due.0 in
    let it = c.requires.due.1 in
    let x = given g s l it (out g (goal.at.returns-clause-sound g c).After-index_mut l it) in
    let after = parts_of g.C.Chains.lists g.C.Chains.place c.step_asking.new.self in
    let homes = vec_capacity c.args.self.now.homes in
    let ready = deque_capacity c.args.self.now.ready in
    record {
      kept = settled_kept x c.args.parent c.requires.held after c.settle_next-is_last.result (is_last g s l it) c.step_asking.ensures.asks
          c.step_asking.ensures.records;
      rooms = rooms_in after homes ready (vec_capacity c.step_asking.new.self.homes) (deque_capacity c.step_asking.new.self.ready) c.step_asking.ensures.homes
          c.step_asking.ensures.ready
          (settled_rooms x c.args.parent c.requires.held after c.settle_next-is_last.result (is_last g s l it) c.step_asking.ensures.asks
          c.step_asking.ensures.records homes ready c.requires.sound.rooms);
    }

pub returns-clause-settles : goal.returns-clause-settles
returns-clause-settles g c l it =
    let s = (goal.at.returns-clause-settles g c).After-settle_next-is_last in
    let both = settled_steps (given g s l it (out g (goal.at.returns-clause-settles g c).After-index_mut l it)) c.args.parent c.requires.held
    (parts_of g.C.Chains.lists g.C.Chains.place c.step_asking.new.self) c.settle_next-is_last.result (is_last g s l it) c.step_asking.ensures.asks
    c.step_asking.ensures.records in
    (refl, both.0, both.1)
