use Rattle.std.proofs.Common.{◌<◌, suc, sym, subst, refl, length, arith}
use Rattle.std.specs.Prelude.{Option, vec_capacity}
use Rattle.std.specs.VecDeque.{deque_capacity}
use Rattle.boc_runs.specs.machine.Steps.{flagging, Flags}
use Rattle.boc_dispatch.specs.declared.live.Live.{Live}
use Rattle.boc_dispatch.specs.Inside.{parts_of, state, IsKept, HasRooms}
use Rattle.boc_dispatch.specs.Places.{in_phase}
use Rattle.boc_dispatch.proofs.Fits.{steps_fit}
use Rattle.boc_dispatch.proofs.Flagged.{flag_next, flag_there, flag_stands, flag_steps, flag_keeps, flag_rooms}
use Rattle.boc_dispatch.proofs.Going.{placed}
use Rattle.boc_dispatch.proofs.Tables.{live_same, live_changed}
use Rattle.boc_dispatch.proofs.roster.Roster.flag.Goals as goal

pub flag-requires : goal.flag-requires
flag-requires g c =
    let d = parts_of g.C.Chains.lists g.C.Chains.place c.args.self.now in
    record {
      there = flag_there d c.requires.sound.kept c.args.slot c.requires.due.0 c.args.row c.args.request c.requires.due.1;
      exchanged = flag_stands d c.requires.sound.kept c.args.slot c.requires.due.0 c.args.row c.args.request c.requires.due.1;
    }

pub flag_next-requires : goal.flag_next-requires
flag_next-requires g c =
    let d = parts_of g.C.Chains.lists g.C.Chains.place c.args.self.now in
    let l = c.requires.due.0 in
    subst (λ (x : Live). c.args.request < length x.cowns.items)
    (sym (live_same d.live c.args.slot l c.index_mut.result.now c.requires.due.1.is c.index_mut.ensures.value))
    (flag_next d c.requires.sound.kept c.args.slot l c.args.row c.args.request c.requires.due.1)

pub overflow_add-self : goal.overflow_add-self
overflow_add-self g c = omega (
  arith,
  steps_fit c.args.self.now.program.now (state (parts_of g.C.Chains.lists g.C.Chains.place c.args.self.now))
      c.requires.sound.kept.sound,
)

pub returns-clause-sound : goal.returns-clause-sound
returns-clause-sound g c =
    let d = parts_of g.C.Chains.lists g.C.Chains.place c.args.self.now in
    let change : Live → Live = λ x. in_phase c.args.row (flagging x.cowns.items (suc c.args.request)) x in
    let new_is = live_changed change d.live c.args.slot c.requires.due.0 c.index_mut.result.now c.flag_next.new.self c.requires.due.1.is
    c.index_mut.ensures.value
    c.flag_next.ensures in
    let homes = vec_capacity c.args.self.now.homes in
    let ready = deque_capacity c.args.self.now.ready in
    record {
      kept = subst (λ (o : Option Live). IsKept (placed d (g.C.Chains.lists c.flag.new.self) (g.C.Chains.place c.flag.new.self) c.args.slot o)) new_is
          (flag_keeps d c.requires.sound.kept c.args.slot c.requires.due.0 c.args.row c.args.request c.requires.due.1 (g.C.Chains.lists c.flag.new.self)
          (g.C.Chains.place c.flag.new.self) c.flag.ensures.lists c.flag.ensures.places);
      rooms = subst (λ (o : Option Live). HasRooms (placed d (g.C.Chains.lists c.flag.new.self) (g.C.Chains.place c.flag.new.self) c.args.slot o) homes ready)
          new_is
          (flag_rooms d c.requires.sound.kept c.args.slot c.requires.due.0 c.args.row c.args.request c.requires.due.1 (g.C.Chains.lists c.flag.new.self)
          (g.C.Chains.place c.flag.new.self) c.flag.ensures.lists c.flag.ensures.places homes ready c.requires.sound.rooms);
    }

pub returns-clause-flags : goal.returns-clause-flags
returns-clause-flags g c l it =
    let d = parts_of g.C.Chains.lists g.C.Chains.place c.args.self.now in
    let lists = g.C.Chains.lists c.flag.new.self in
    let place = g.C.Chains.place c.flag.new.self in
    let change : Live → Live = λ x. in_phase c.args.row (flagging x.cowns.items (suc c.args.request)) x in
    let new_is = live_changed change d.live c.args.slot l c.index_mut.result.now c.flag_next.new.self it.is c.index_mut.ensures.value c.flag_next.ensures in (
      subst (λ (o : Option Live). Flags (state d) l.number c.args.request (state (placed d lists place c.args.slot o))) new_is
          (flag_steps d c.requires.sound.kept c.args.slot l c.args.row c.args.request it lists place c.flag.ensures.lists c.flag.ensures.places),
      refl,
    )
