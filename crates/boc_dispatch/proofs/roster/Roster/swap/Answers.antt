use Rattle.std.proofs.Common.{◌<◌, sym, subst, refl, length, arith}
use Rattle.std.specs.Prelude.{Option, vec_capacity}
use Rattle.std.specs.VecDeque.{deque_capacity}
use Rattle.boc_runs.specs.machine.Steps.{Swaps}
use Rattle.boc_dispatch.specs.declared.live.Live.{Live}
use Rattle.boc_dispatch.specs.Inside.{parts_of, state, IsKept, HasRooms}
use Rattle.boc_dispatch.specs.Places.{exchanged}
use Rattle.boc_dispatch.proofs.Fits.{steps_fit}
use Rattle.boc_dispatch.proofs.Exchanged.{swap_next, swap_there, swap_due, swap_steps, swap_keeps, swap_rooms}
use Rattle.boc_dispatch.proofs.Going.{placed}
use Rattle.boc_dispatch.proofs.Tables.{live_same, live_changed}
use Rattle.boc_dispatch.proofs.roster.Roster.swap.Goals as goal

pub swap-requires : goal.swap-requires
swap-requires g c =
    let d = parts_of g.C.Chains.lists g.C.Chains.place c.args.self.now in
    record {
      next = swap_due d c.requires.sound.kept c.args.slot c.requires.due.0 c.args.request c.requires.due.1;
      there = swap_there d c.requires.sound.kept c.args.slot c.requires.due.0 c.args.request c.requires.due.1;
    }

pub ask-requires : goal.ask-requires
ask-requires g c =
    let d = parts_of g.C.Chains.lists g.C.Chains.place c.args.self.now in
    subst (λ (x : Live). c.args.request < length x.cowns.items)
    (sym (live_same d.live c.args.slot c.requires.due.0 c.index_mut.result.now c.requires.due.1.is c.index_mut.ensures.value))
    (swap_next d c.requires.sound.kept c.args.slot c.requires.due.0 c.args.request c.requires.due.1)

pub overflow_add-self : goal.overflow_add-self
overflow_add-self g c = omega (
  arith,
  steps_fit c.args.self.now.program.now (state (parts_of g.C.Chains.lists g.C.Chains.place c.args.self.now))
      c.requires.sound.kept.sound,
)

pub returns-clause-sound : goal.returns-clause-sound
returns-clause-sound g c =
    let d = parts_of g.C.Chains.lists g.C.Chains.place c.args.self.now in
    let new_is = live_changed (exchanged c.args.request) d.live c.args.slot c.requires.due.0 c.index_mut.result.now c.ask.new.self c.requires.due.1.is
    c.index_mut.ensures.value c.ask.ensures in
    let homes = vec_capacity c.args.self.now.homes in
    let ready = deque_capacity c.args.self.now.ready in
    record {
      kept = subst (λ (o : Option Live). IsKept (placed d (g.C.Chains.lists c.swap.new.self) (g.C.Chains.place c.swap.new.self) c.args.slot o)) new_is
          (swap_keeps d c.requires.sound.kept c.args.slot c.requires.due.0 c.args.request c.requires.due.1 (g.C.Chains.lists c.swap.new.self)
          (g.C.Chains.place c.swap.new.self) c.swap.ensures.lists c.swap.ensures.place c.swap.ensures.other_places);
      rooms = subst (λ (o : Option Live). HasRooms (placed d (g.C.Chains.lists c.swap.new.self) (g.C.Chains.place c.swap.new.self) c.args.slot o) homes ready)
          new_is
          (swap_rooms d c.requires.sound.kept c.args.slot c.requires.due.0 c.args.request c.requires.due.1 (g.C.Chains.lists c.swap.new.self)
          (g.C.Chains.place c.swap.new.self) c.swap.ensures.lists c.swap.ensures.place c.swap.ensures.other_places homes ready c.requires.sound.rooms);
    }

pub returns-clause-swaps : goal.returns-clause-swaps
returns-clause-swaps g c l it =
    let d = parts_of g.C.Chains.lists g.C.Chains.place c.args.self.now in
    let lists = g.C.Chains.lists c.swap.new.self in
    let place = g.C.Chains.place c.swap.new.self in
    let new_is = live_changed (exchanged c.args.request) d.live c.args.slot l c.index_mut.result.now c.ask.new.self it.is c.index_mut.ensures.value
    c.ask.ensures in (
      subst (λ (o : Option Live). Swaps (state d) l.number c.args.request (state (placed d lists place c.args.slot o))) new_is
          (swap_steps d c.requires.sound.kept c.args.slot l c.args.request it lists place c.swap.ensures.lists c.swap.ensures.place
          c.swap.ensures.other_places),
      refl,
    )
