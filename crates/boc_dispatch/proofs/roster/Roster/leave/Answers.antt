use Rattle.std.proofs.Common.{suc, refl, sym, ap, subst, arith}
use Rattle.std.specs.Prelude.{vec_capacity}
use Rattle.std.specs.VecDeque.{deque_capacity}
use Rattle.boc_runs.specs.declared.step.Step.TheVariants as steps
use Rattle.boc_dispatch.specs.Inside.{Parts, parts_of, underway, IsKept, HasRooms}
use Rattle.boc_dispatch.proofs.Fronts.{due_front, low, low_place, may_leave}
use Rattle.boc_dispatch.proofs.Departing.{LetGo, releases_of, unhooked_released, unhooked_makes, passed_may, passed_released, passed_makes, passed_program}
use Rattle.boc_dispatch.proofs.Departing.{blocked_parts, blocked_is}
use Rattle.boc_dispatch.proofs.Tables.{live_there}
use Rattle.boc_dispatch.proofs.roster.Roster.leave.Given.{Over}
use Rattle.boc_dispatch.proofs.roster.Roster.leave.Goals.{After-leave}
use Rattle.boc_dispatch.proofs.roster.Roster.leave.Goals as goal

pub leave-requires : goal.leave-requires
leave-requires g c =
    let d = parts_of g.C.Chains.lists g.C.Chains.place c.args.self.now in
    let f = due_front d c.args.slot c.args.row c.args.request c.requires.due.0 c.requires.sound.kept c.requires.due.1 in
    record {
      there = low_place d c.args.slot c.args.row c.args.request c.requires.due.0 f;
      granted = may_leave d c.args.slot c.args.row c.args.request c.requires.due.0 f;
    }

-- once the request is off the front
abbrev let_gone : (g : Over) → After-leave g → Parts
let_gone g c = record (parts_of g.C.Chains.lists g.C.Chains.place c.args.self.now)
    { lists = g.C.Chains.lists c.leave.new.self; place = g.C.Chains.place c.leave.new.self }

let_go : (g : Over) (c : After-leave g) → LetGo (parts_of g.C.Chains.lists g.C.Chains.place c.args.self.now) c.args.slot c.args.request (let_gone g c)
let_go g c = record { lists_are = c.leave.ensures.lists; places = c.leave.ensures.places; parts_are = refl }

pub returns-in-Blocked-clause-sound : goal.returns-in-Blocked-clause-sound
returns-in-Blocked-clause-sound g c =
    let d = parts_of g.C.Chains.lists g.C.Chains.place c.args.self.now in
    let f = due_front d c.args.slot c.args.row c.args.request c.requires.due.0 c.requires.sound.kept c.requires.due.1 in
    let s = (goal.at.returns-in-Blocked-clause-sound g c).After-leave in
    let same = blocked_parts d c.args.slot c.args.row c.args.request c.requires.due.0 f (let_gone g s) (let_go g s) c.in-Blocked.ensures.answer in
    record {
      kept = subst IsKept (sym same) c.requires.sound.kept;
      rooms = subst (λ (z : Parts). HasRooms z (vec_capacity c.args.self.now.homes) (deque_capacity c.args.self.now.ready)) (sym same) c.requires.sound.rooms;
    }

pub returns-in-Blocked-clause-releases : goal.returns-in-Blocked-clause-releases
returns-in-Blocked-clause-releases g c l at_stage =
    let d = parts_of g.C.Chains.lists g.C.Chains.place c.args.self.now in
    let f = due_front d c.args.slot c.args.row c.args.request l c.requires.sound.kept at_stage in
    let s = (goal.at.returns-in-Blocked-clause-releases g c).After-leave in (
      ap underway (blocked_parts d c.args.slot c.args.row c.args.request l f (let_gone g s) (let_go g s) c.in-Blocked.ensures.answer),
      blocked_is d c.args.slot
          c.args.row c.args.request l f (let_gone g s) (let_go g s) c.in-Blocked.ensures.answer,
    )

pub leave_on-requires : goal.leave_on-requires
leave_on-requires g c =
    let d = parts_of g.C.Chains.lists g.C.Chains.place c.args.self.now in
    let f = due_front d c.args.slot c.args.row c.args.request c.requires.due.0 c.requires.sound.kept c.requires.due.1 in
    let s = (goal.at.leave_on-requires g c).After-leave in
    record {
      before = d;
      this = c.requires.due.0;
      low = low d c.args.slot c.args.row c.args.request c.requires.due.0 f;
      released = unhooked_released d c.args.slot c.args.row c.args.request c.requires.due.0 f (let_gone g s) (let_go g s) c.in-Unhooked.ensures.answer;
      rooms = c.requires.sound.rooms;
    }

pub returns-in-Unhooked-clause-releases : goal.returns-in-Unhooked-clause-releases
returns-in-Unhooked-clause-releases g c l at_stage =
    let d = parts_of g.C.Chains.lists g.C.Chains.place c.args.self.now in
    let f = due_front d c.args.slot c.args.row c.args.request l c.requires.sound.kept at_stage in
    let s = (goal.at.returns-in-Unhooked-clause-releases g c).After-leave in
    releases_of d (let_gone g s) (parts_of g.C.Chains.lists g.C.Chains.place c.leave_on.new.self) c.args.row l (suc c.args.request)
    (steps.Unhook c.args.request) c.leave_on.result refl
    (unhooked_makes d c.args.slot c.args.row c.args.request l f (let_gone g s) (let_go g s) c.in-Unhooked.ensures.answer)
    (c.leave_on.ensures.left l at_stage.is)

pub grant-requires : goal.grant-requires
grant-requires g c =
    let d = parts_of g.C.Chains.lists g.C.Chains.place c.args.self.now in
    let f = due_front d c.args.slot c.args.row c.args.request c.requires.due.0 c.requires.sound.kept c.requires.due.1 in
    let s = (goal.at.grant-requires g c).After-leave in
    passed_may d c.args.slot c.args.row c.args.request c.requires.due.0 f (let_gone g s) (let_go g s) c.in-Passed.next c.in-Passed.ensures.answer
    (deque_capacity c.args.self.now.ready) c.requires.sound.rooms.ready

-- who is granted is there, and each slot of the table is kept in 32 bits
pub overflow_cast-next : goal.overflow_cast-next
overflow_cast-next g c =
    let d = parts_of g.C.Chains.lists g.C.Chains.place c.args.self.now in
    let f = due_front d c.args.slot c.args.row c.args.request c.requires.due.0 c.requires.sound.kept c.requires.due.1 in
    let s = (goal.at.overflow_cast-next g c).After-leave in
    let rooms = c.requires.sound.rooms in
    let may = passed_may d c.args.slot c.args.row c.args.request c.requires.due.0 f (let_gone g s) (let_go g s) c.in-Passed.next c.in-Passed.ensures.answer
    (deque_capacity c.args.self.now.ready) rooms.ready in
    omega (arith, rooms.few, live_there d.live c.in-Passed.next.index may.this may.is)

pub leave_on-requires-in-Passed : goal.leave_on-requires-in-Passed
leave_on-requires-in-Passed g c =
    let d = parts_of g.C.Chains.lists g.C.Chains.place c.args.self.now in
    let f = due_front d c.args.slot c.args.row c.args.request c.requires.due.0 c.requires.sound.kept c.requires.due.1 in
    let s = (goal.at.leave_on-requires-in-Passed g c).After-leave in
    let rooms = c.requires.sound.rooms in
    record {
      before = d;
      this = c.requires.due.0;
      low = low d c.args.slot c.args.row c.args.request c.requires.due.0 f;
      released = passed_released d c.args.slot c.args.row c.args.request c.requires.due.0 f (let_gone g s) (let_go g s) c.in-Passed.next
          c.in-Passed.ensures.answer (parts_of g.C.Chains.lists g.C.Chains.place c.grant.new.self) c.grant.ensures.granted;
      rooms = record {
        rooms = rooms.rooms;
        homes = omega (arith, rooms.homes, ap vec_capacity c.grant.ensures.rooms.0);
        ready = omega (arith, rooms.ready, c.grant.ensures.rooms.1);
        few = rooms.few;
      };
    }

pub returns-in-Passed-clause-releases : goal.returns-in-Passed-clause-releases
returns-in-Passed-clause-releases g c l at_stage =
    let d = parts_of g.C.Chains.lists g.C.Chains.place c.args.self.now in
    let f = due_front d c.args.slot c.args.row c.args.request l c.requires.sound.kept at_stage in
    let s = (goal.at.returns-in-Passed-clause-releases g c).After-leave in
    let after = parts_of g.C.Chains.lists g.C.Chains.place c.grant.new.self in
    let answer = c.in-Passed.ensures.answer in
    let granted = c.grant.ensures.granted in
    releases_of d after (parts_of g.C.Chains.lists g.C.Chains.place c.leave_on-in-Passed.new.self) c.args.row l (suc c.args.request) (steps.Pass c.args.request)
    c.leave_on-in-Passed.result
    (passed_program d c.args.slot c.args.row c.args.request l f (let_gone g s) (let_go g s) c.in-Passed.next answer after granted)
    (passed_makes d c.args.slot c.args.row c.args.request l f (let_gone g s) (let_go g s) c.in-Passed.next answer after granted)
    (c.leave_on-in-Passed.ensures.left l (passed_released d c.args.slot c.args.row c.args.request l f (let_gone g s) (let_go g s) c.in-Passed.next answer after
    granted).here)
