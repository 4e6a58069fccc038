use Rattle.std.proofs.Common.{◌≡◌, true, List, length, sym, ap, subst, arith, ℤ}
use Rattle.std.specs.Prelude.{vec_capacity}
use Rattle.std.specs.VecDeque.{deque_capacity}
use Rattle.boc_runs.specs.declared.event.Event.{Event}
use Rattle.boc_program.specs.Signatures.{AllBelow}
use Rattle.boc_runs.specs.Legal.{entries, IsAllowed}
use Rattle.boc_dispatch.specs.declared.live.Live.{Live}
use Rattle.boc_dispatch.specs.Grants.{IsRemoved}
use Rattle.boc_dispatch.specs.Inside.{Parts, parts_of, state, IsKept, HasRooms}
use Rattle.boc_dispatch.specs.Moves.{EndsBehaviour}
use Rattle.boc_dispatch.proofs.Fits.{steps_fit}
use Rattle.boc_dispatch.proofs.Tables.{live_same}
use Rattle.boc_dispatch.proofs.Releasing.{may_empty, moved_kept, moved_rooms, gone_kept, gone_rooms}
use Rattle.boc_dispatch.proofs.Finishing.{ending, finish_calls, released, allowed, below, both, finished_parts, has_more, has_none, ends_with_cowns}
use Rattle.boc_dispatch.proofs.Finishing.{ends_without}
use Rattle.boc_dispatch.proofs.roster.Roster.finish.Goals as goal

pub end-has_cowns-requires-clause-below : goal.end-has_cowns-requires-clause-below
end-has_cowns-requires-clause-below g c =
    let d = parts_of g.C.Chains.lists g.C.Chains.place c.args.self.now in
    let f = ending d c.args.slot c.args.row c.requires.runs.0 c.args.outcome.now c.requires.sound.kept c.requires.runs.1 c.outputs.ensures.meaning
    c.requires.handed c.requires.spawned in
    let low = subst (λ (vs : List ℤ). AllBelow (length vs) c.requires.runs.0.params.items) (sym c.deref_mut.ensures.value) (below _ _ _ _ _ _ f) in
    subst (λ (x : Live). AllBelow (length c.deref_mut.result.now) x.params.items)
    (sym (live_same d.live c.args.slot c.requires.runs.0 c.index_mut-live.result.now f.is c.index_mut-live.ensures.value)) low

pub end-has_cowns-requires-clause-both : goal.end-has_cowns-requires-clause-both
end-has_cowns-requires-clause-both g c =
    let d = parts_of g.C.Chains.lists g.C.Chains.place c.args.self.now in
    let f = ending d c.args.slot c.args.row c.requires.runs.0 c.args.outcome.now c.requires.sound.kept c.requires.runs.1 c.outputs.ensures.meaning
    c.requires.handed c.requires.spawned in
    let same = subst (λ (os : List ℤ). length c.requires.runs.0.params.items ≡ length os) (sym c.outputs.ensures.value) (both _ _ _ _ _ _ f) in
    subst (λ (x : Live). length x.params.items ≡ length c.outputs.result.now)
    (sym (live_same d.live c.args.slot c.requires.runs.0 c.index_mut-live.result.now f.is c.index_mut-live.ensures.value)) same

pub put-requires-clause-allowed : goal.put-requires-clause-allowed
put-requires-clause-allowed g c =
    let d = parts_of g.C.Chains.lists g.C.Chains.place c.args.self.now in
    let f = ending d c.args.slot c.args.row c.requires.runs.0 c.args.outcome.now c.requires.sound.kept c.requires.runs.1 c.outputs.ensures.meaning
    c.requires.handed c.requires.spawned in
    subst (λ (z : Event). IsAllowed d.log.cowns (entries d.log.events) z) (sym c.end_event.ensures) (allowed _ _ _ _ _ _ f)

pub overflow_add-self : goal.overflow_add-self
overflow_add-self g c = omega (
  arith,
  steps_fit c.args.self.now.program.now (state (parts_of g.C.Chains.lists g.C.Chains.place c.args.self.now))
      c.requires.sound.kept.sound,
)

pub returns-then-has_cowns-clause-sound : goal.returns-then-has_cowns-clause-sound
returns-then-has_cowns-clause-sound g c =
    let d = parts_of g.C.Chains.lists g.C.Chains.place c.args.self.now in
    let f = ending d c.args.slot c.args.row c.requires.runs.0 c.args.outcome.now c.requires.sound.kept c.requires.runs.1 c.outputs.ensures.meaning
    c.requires.handed c.requires.spawned in
    let k = finish_calls d c.args.slot c.args.row c.requires.runs.0 c.args.outcome.now f c.index_mut-live.result.now c.end-has_cowns.new.self
    c.deref_mut.result.now c.outputs.result.now c.end-has_cowns.new.values c.args.self.now.values c.end_event.result c.put.new.self c.end-has_cowns.result
    c.index_mut-live.ensures.value c.end-has_cowns.ensures.ended c.outputs.ensures.value c.deref_mut.ensures.value c.deref_mut.ensures.len
    c.end-has_cowns.ensures.values c.end_event.ensures c.put.ensures c.end-has_cowns.ensures.cowns in
    let more = has_more _ _ _ _ _ _ f _ _ _ _ _ k c.if-has_cowns.true in
    let same = finished_parts _ _ _ _ _ _ f _ _ _ _ _ k in
    let homes = vec_capacity c.args.self.now.homes in
    let room = deque_capacity c.args.self.now.ready in
    record {
      kept = subst IsKept (sym same) (moved_kept _ _ _ _ 0 _ (released _ _ _ _ _ _ f) more);
      rooms = subst (λ (z : Parts). HasRooms z homes room) (sym same) (moved_rooms _ _ _ _ 0 _ (released _ _ _ _ _ _ f) more homes room c.requires.sound.rooms);
    }

pub returns-then-has_cowns-clause-ends : goal.returns-then-has_cowns-clause-ends
returns-then-has_cowns-clause-ends g c this at_stage =
    let d = parts_of g.C.Chains.lists g.C.Chains.place c.args.self.now in
    let f = ending d c.args.slot c.args.row this c.args.outcome.now c.requires.sound.kept at_stage c.outputs.ensures.meaning c.requires.handed
    c.requires.spawned in
    let k = finish_calls d c.args.slot c.args.row this c.args.outcome.now f c.index_mut-live.result.now c.end-has_cowns.new.self c.deref_mut.result.now
    c.outputs.result.now c.end-has_cowns.new.values c.args.self.now.values c.end_event.result c.put.new.self c.end-has_cowns.result
    c.index_mut-live.ensures.value c.end-has_cowns.ensures.ended c.outputs.ensures.value c.deref_mut.ensures.value c.deref_mut.ensures.len
    c.end-has_cowns.ensures.values c.end_event.ensures c.put.ensures c.end-has_cowns.ensures.cowns in
    let more = has_more _ _ _ _ _ _ f _ _ _ _ _ k c.if-has_cowns.true in
    subst (λ (z : Parts). EndsBehaviour d this.number c.args.row true z) (sym (finished_parts _ _ _ _ _ _ f _ _ _ _ _ k))
    (ends_with_cowns _ _ _ _ _ _ f _ _ _ _ _ k more)

pub remove-requires-clause-empty : goal.remove-requires-clause-empty
remove-requires-clause-empty g c cown =
    let d = parts_of g.C.Chains.lists g.C.Chains.place c.args.self.now in
    let f = ending d c.args.slot c.args.row c.requires.runs.0 c.args.outcome.now c.requires.sound.kept c.requires.runs.1 c.outputs.ensures.meaning
    c.requires.handed c.requires.spawned in
    let k = finish_calls d c.args.slot c.args.row c.requires.runs.0 c.args.outcome.now f c.index_mut-live.result.now c.end-has_cowns.new.self
    c.deref_mut.result.now c.outputs.result.now c.end-has_cowns.new.values c.args.self.now.values c.end_event.result c.put.new.self c.end-has_cowns.result
    c.index_mut-live.ensures.value c.end-has_cowns.ensures.ended c.outputs.ensures.value c.deref_mut.ensures.value c.deref_mut.ensures.len
    c.end-has_cowns.ensures.values c.end_event.ensures c.put.ensures c.end-has_cowns.ensures.cowns in
    let last = has_none _ _ _ _ _ _ f _ _ _ _ _ k c.if-has_cowns.false in
    may_empty _ _ _ _ 0 _ (released _ _ _ _ _ _ f) last cown

pub returns-clause-sound : goal.returns-clause-sound
returns-clause-sound g c =
    let d = parts_of g.C.Chains.lists g.C.Chains.place c.args.self.now in
    let f = ending d c.args.slot c.args.row c.requires.runs.0 c.args.outcome.now c.requires.sound.kept c.requires.runs.1 c.outputs.ensures.meaning
    c.requires.handed c.requires.spawned in
    let k = finish_calls d c.args.slot c.args.row c.requires.runs.0 c.args.outcome.now f c.index_mut-live.result.now c.end-has_cowns.new.self
    c.deref_mut.result.now c.outputs.result.now c.end-has_cowns.new.values c.args.self.now.values c.end_event.result c.put.new.self c.end-has_cowns.result
    c.index_mut-live.ensures.value c.end-has_cowns.ensures.ended c.outputs.ensures.value c.deref_mut.ensures.value c.deref_mut.ensures.len
    c.end-has_cowns.ensures.values c.end_event.ensures c.put.ensures c.end-has_cowns.ensures.cowns in
    let last = has_none _ _ _ _ _ _ f _ _ _ _ _ k c.if-has_cowns.false in
    let after = parts_of g.C.Chains.lists g.C.Chains.place c.remove.new.self in
    let removed = subst (λ (z : Parts). IsRemoved z c.args.slot after) (finished_parts _ _ _ _ _ _ f _ _ _ _ _ k) c.remove.ensures.removed in
    let rooms = gone_rooms _ _ _ _ 0 _ (released _ _ _ _ _ _ f) last after removed (vec_capacity c.args.self.now.homes) (deque_capacity c.args.self.now.ready)
    c.requires.sound.rooms in
    record {
      kept = gone_kept _ _ _ _ 0 _ (released _ _ _ _ _ _ f) last after removed;
      rooms = record {
        rooms = rooms.rooms;
        homes = omega (arith, rooms.homes, ap vec_capacity c.remove.ensures.rooms.0);
        ready = omega (arith, rooms.ready, ap deque_capacity c.remove.ensures.rooms.1);
        few = rooms.few;
      };
    }

pub returns-clause-ends : goal.returns-clause-ends
returns-clause-ends g c this at_stage =
    let d = parts_of g.C.Chains.lists g.C.Chains.place c.args.self.now in
    let f = ending d c.args.slot c.args.row this c.args.outcome.now c.requires.sound.kept at_stage c.outputs.ensures.meaning c.requires.handed
    c.requires.spawned in
    let k = finish_calls d c.args.slot c.args.row this c.args.outcome.now f c.index_mut-live.result.now c.end-has_cowns.new.self c.deref_mut.result.now
    c.outputs.result.now c.end-has_cowns.new.values c.args.self.now.values c.end_event.result c.put.new.self c.end-has_cowns.result
    c.index_mut-live.ensures.value c.end-has_cowns.ensures.ended c.outputs.ensures.value c.deref_mut.ensures.value c.deref_mut.ensures.len
    c.end-has_cowns.ensures.values c.end_event.ensures c.put.ensures c.end-has_cowns.ensures.cowns in
    let last = has_none _ _ _ _ _ _ f _ _ _ _ _ k c.if-has_cowns.false in
    let after = parts_of g.C.Chains.lists g.C.Chains.place c.remove.new.self in
    let removed = subst (λ (z : Parts). IsRemoved z c.args.slot after) (finished_parts _ _ _ _ _ _ f _ _ _ _ _ k) c.remove.ensures.removed in
    ends_without _ _ _ _ _ _ f _ _ _ _ _ k last after removed
