use Rattle.std.proofs.Common.{◌≡◌, set, refl, sym, ◌∙◌, ap, subst, arith}
use Rattle.std.specs.Prelude.{Option, Some, is_some, vec_capacity}
use Rattle.std.specs.VecDeque.{deque_capacity}
use Rattle.boc_runs.specs.machine.Steps.{Owns}
use Rattle.boc_dispatch.specs.declared.live.Live.{Live}
use Rattle.boc_dispatch.specs.Grants.{with_granted, MayBeGranted}
use Rattle.boc_dispatch.specs.Inside.{Parts, parts_of, state, IsKept, HasRooms, GoesOn}
use Rattle.boc_dispatch.proofs.Fits.{steps_fit}
use Rattle.boc_dispatch.proofs.Granting.{stepped_on, granted_stays}
use Rattle.boc_dispatch.proofs.Owning.{Owning, own_there, own_parts, own_may, own_kept, own_rooms, own_goes}
use Rattle.boc_dispatch.proofs.roster.Roster.own.Goals as goal

pub index_mut-requires-2 : goal.index_mut-requires-2
index_mut-requires-2 g c =
    let d = parts_of g.C.Chains.lists g.C.Chains.place c.args.self.now in
    let r = c.requires in
    let o : Owning d c.args.parent c.args.slot c.args.row r.held.this r.due.0 =
    record { kept = r.sound.kept; is = r.due.1.is; stage_is = r.due.1.stage_is; holder_is = r.held.is; holds = r.held.child_is } in
    ap (λ (x : Option Live). is_some x)
    (own_there d c.args.parent c.args.slot c.args.row r.held.this r.due.0 c.index_mut.result.now c.end_child.new.self o c.index_mut.ensures.value
    c.end_child.ensures)

pub grant-requires : goal.grant-requires
grant-requires g c =
    let d = parts_of g.C.Chains.lists g.C.Chains.place c.args.self.now in
    let r = c.requires in
    let o : Owning d c.args.parent c.args.slot c.args.row r.held.this r.due.0 =
    record { kept = r.sound.kept; is = r.due.1.is; stage_is = r.due.1.stage_is; holder_is = r.held.is; holds = r.held.child_is } in
    let e = own_parts d c.args.parent c.args.slot c.args.row r.held.this r.due.0 c.index_mut.result.now c.end_child.new.self c.index_mut-2.result.now
    c.wait.new.self o
    (record { holder = c.index_mut.ensures.value; frees = c.end_child.ensures; own = c.index_mut-2.ensures.value; waits = c.wait.ensures }) in
    let room = deque_capacity c.args.self.now.ready in
    subst (λ (z : Parts). MayBeGranted z c.args.slot room) (sym e)
    (own_may d c.args.parent c.args.slot c.args.row r.held.this r.due.0 o room r.sound.rooms.ready)

pub overflow_add-self : goal.overflow_add-self
overflow_add-self g c =
    let d = parts_of g.C.Chains.lists g.C.Chains.place c.args.self.now in
    let before : Parts = record d { live = set (set d.live c.args.parent (Some c.end_child.new.self)) c.args.slot (Some c.wait.new.self) } in
    let same : c.grant.new.self.steps ≡ d.steps =
    ap (λ (z : Parts). z.steps) c.grant.ensures.granted ∙ granted_stays (λ z. z.steps) before c.args.slot (λ live ready. refl) in
    omega (arith, steps_fit d.program (state d) c.requires.sound.kept.sound, same)

pub returns-clause-sound : goal.returns-clause-sound
returns-clause-sound g c =
    let d = parts_of g.C.Chains.lists g.C.Chains.place c.args.self.now in
    let r = c.requires in
    let o : Owning d c.args.parent c.args.slot c.args.row r.held.this r.due.0 =
    record { kept = r.sound.kept; is = r.due.1.is; stage_is = r.due.1.stage_is; holder_is = r.held.is; holds = r.held.child_is } in
    let e = own_parts d c.args.parent c.args.slot c.args.row r.held.this r.due.0 c.index_mut.result.now c.end_child.new.self c.index_mut-2.result.now
    c.wait.new.self o
    (record { holder = c.index_mut.ensures.value; frees = c.end_child.ensures; own = c.index_mut-2.ensures.value; waits = c.wait.ensures }) in
    let f = ap stepped_on (c.grant.ensures.granted ∙ ap (with_granted c.args.slot) e) in
    let homes = vec_capacity c.args.self.now.homes in
    let room = deque_capacity c.args.self.now.ready in
    let kept = own_kept d c.args.parent c.args.slot c.args.row r.held.this r.due.0 o in
    let rooms = subst (λ (z : Parts). HasRooms z homes room) (sym f)
    (own_rooms d c.args.parent c.args.slot c.args.row r.held.this r.due.0 o homes room r.sound.rooms) in
    record {
      kept = subst IsKept (sym f) kept;
      rooms = record {
        rooms = rooms.rooms;
        homes = omega (arith, rooms.homes, ap vec_capacity c.grant.ensures.rooms.0);
        ready = omega (arith, rooms.ready, c.grant.ensures.rooms.1);
        few = rooms.few;
      };
    }

pub returns-clause-owns : goal.returns-clause-owns
returns-clause-owns g c l at_stage =
    let d = parts_of g.C.Chains.lists g.C.Chains.place c.args.self.now in
    let r = c.requires in
    let o : Owning d c.args.parent c.args.slot c.args.row r.held.this l =
    record { kept = r.sound.kept; is = at_stage.is; stage_is = at_stage.stage_is; holder_is = r.held.is; holds = r.held.child_is } in
    let e = own_parts d c.args.parent c.args.slot c.args.row r.held.this l c.index_mut.result.now c.end_child.new.self c.index_mut-2.result.now
    c.wait.new.self o
    (record { holder = c.index_mut.ensures.value; frees = c.end_child.ensures; own = c.index_mut-2.ensures.value; waits = c.wait.ensures }) in
    let f = ap stepped_on (c.grant.ensures.granted ∙ ap (with_granted c.args.slot) e) in
    subst (λ (z : Parts). GoesOn (λ s t. Owns s l.number t) d z) (sym f) (own_goes d c.args.parent c.args.slot c.args.row r.held.this l o)
