use Rattle.std.proofs.Common.{suc, sym, ap, subst, arith}
use Rattle.std.specs.Prelude.{vec_capacity}
use Rattle.std.specs.VecDeque.{deque_capacity}
use Rattle.boc_dispatch.specs.declared.calls.Left.TheVariants as left
use Rattle.boc_dispatch.specs.Grants.{IsRemoved, LeftAs}
use Rattle.boc_dispatch.specs.Inside.{Parts, parts_of, IsKept, HasRooms}
use Rattle.boc_dispatch.proofs.Releasing.{step_fits, place_then, was_last, was_not_last, may_empty, moved_kept, moved_rooms, gone_kept, gone_rooms}
use Rattle.boc_dispatch.proofs.Releasing.{answers_gone, answers_moved}
use Rattle.boc_dispatch.proofs.roster.Roster.leave_on.Goals as goal

pub overflow_add-self : goal.overflow_add-self
overflow_add-self g c =
    let e = parts_of g.C.Chains.lists g.C.Chains.place c.args.self.now in
    let fits = step_fits e c.args.slot c.args.row c.args.request (vec_capacity c.args.self.now.homes) (deque_capacity c.args.self.now.ready) c.requires in
    omega (arith, fits)

pub remove-requires-clause-empty : goal.remove-requires-clause-empty
remove-requires-clause-empty g c cown =
    let e = parts_of g.C.Chains.lists g.C.Chains.place c.args.self.now in
    let last = was_last e c.args.slot c.args.row c.args.request _ _ c.requires
    c.index_mut.result.now c.leave_next.new.self c.index_mut.ensures.value c.leave_next.ensures.released c.leave_next.result c.leave_next.ensures.last
    c.if-leave_next.true in
    may_empty c.requires.before c.args.slot c.args.row c.requires.this (suc c.args.request) e c.requires.released last cown

pub returns-then-leave_next-clause-sound : goal.returns-then-leave_next-clause-sound
returns-then-leave_next-clause-sound g c =
    let e = parts_of g.C.Chains.lists g.C.Chains.place c.args.self.now in
    let f = parts_of g.C.Chains.lists g.C.Chains.place c.remove.new.self in
    let last = was_last e c.args.slot c.args.row c.args.request _ _ c.requires
    c.index_mut.result.now c.leave_next.new.self c.index_mut.ensures.value c.leave_next.ensures.released c.leave_next.result c.leave_next.ensures.last
    c.if-leave_next.true in
    let then = place_then e c.args.slot c.args.row c.args.request _ _ c.requires c.index_mut.result.now c.leave_next.new.self c.index_mut.ensures.value
    c.leave_next.ensures.released in
    let removed = subst (λ (z : Parts). IsRemoved z c.args.slot f) then c.remove.ensures.removed in
    let rooms = gone_rooms c.requires.before c.args.slot c.args.row c.requires.this (suc c.args.request) e c.requires.released last f removed
    (vec_capacity c.args.self.now.homes) (deque_capacity c.args.self.now.ready) c.requires.rooms in
    record {
      kept = gone_kept c.requires.before c.args.slot c.args.row c.requires.this (suc c.args.request) e c.requires.released last f removed;
      rooms = record {
        rooms = rooms.rooms;
        homes = omega (arith, rooms.homes, ap vec_capacity c.remove.ensures.rooms.0);
        ready = omega (arith, rooms.ready, ap deque_capacity c.remove.ensures.rooms.1);
        few = rooms.few;
      };
    }

pub returns-then-leave_next-clause-left : goal.returns-then-leave_next-clause-left
returns-then-leave_next-clause-left g c l here =
    let e = parts_of g.C.Chains.lists g.C.Chains.place c.args.self.now in
    let f = parts_of g.C.Chains.lists g.C.Chains.place c.remove.new.self in
    let last = was_last e c.args.slot c.args.row c.args.request _ _ c.requires
    c.index_mut.result.now c.leave_next.new.self c.index_mut.ensures.value c.leave_next.ensures.released c.leave_next.result c.leave_next.ensures.last
    c.if-leave_next.true in
    let then = place_then e c.args.slot c.args.row c.args.request _ _ c.requires c.index_mut.result.now c.leave_next.new.self c.index_mut.ensures.value
    c.leave_next.ensures.released in
    answers_gone e c.args.slot c.args.row c.args.request _ _ c.requires c.args.step l here last f
    (subst (λ (z : Parts). IsRemoved z c.args.slot f) then c.remove.ensures.removed)

pub returns-else-leave_next-clause-sound : goal.returns-else-leave_next-clause-sound
returns-else-leave_next-clause-sound g c =
    let e = parts_of g.C.Chains.lists g.C.Chains.place c.args.self.now in
    let more = was_not_last e c.args.slot c.args.row c.args.request _ _ c.requires
    c.index_mut.result.now c.leave_next.new.self c.index_mut.ensures.value c.leave_next.ensures.released c.leave_next.result c.leave_next.ensures.last
    c.if-leave_next.false in
    let then = place_then e c.args.slot c.args.row c.args.request _ _ c.requires c.index_mut.result.now c.leave_next.new.self c.index_mut.ensures.value
    c.leave_next.ensures.released in
    record {
      kept = subst IsKept (sym then) (moved_kept c.requires.before c.args.slot c.args.row c.requires.this (suc c.args.request) e c.requires.released more);
      rooms = subst (λ (z : Parts). HasRooms z (vec_capacity c.args.self.now.homes) (deque_capacity c.args.self.now.ready)) (sym then)
          (moved_rooms c.requires.before c.args.slot c.args.row c.requires.this (suc c.args.request) e c.requires.released more
          (vec_capacity c.args.self.now.homes) (deque_capacity c.args.self.now.ready) c.requires.rooms);
    }

pub returns-else-leave_next-clause-left : goal.returns-else-leave_next-clause-left
returns-else-leave_next-clause-left g c l here =
    let e = parts_of g.C.Chains.lists g.C.Chains.place c.args.self.now in
    let more = was_not_last e c.args.slot c.args.row c.args.request _ _ c.requires
    c.index_mut.result.now c.leave_next.new.self c.index_mut.ensures.value c.leave_next.ensures.released c.leave_next.result c.leave_next.ensures.last
    c.if-leave_next.false in
    let then = place_then e c.args.slot c.args.row c.args.request _ _ c.requires c.index_mut.result.now c.leave_next.new.self c.index_mut.ensures.value
    c.leave_next.ensures.released in
    subst (λ (z : Parts). LeftAs e c.args.row l (suc c.args.request) c.args.step (left.Moved c.args.step) z) (sym then)
    (answers_moved e c.args.slot c.args.row c.args.request _ _ c.requires c.args.step l here more)
