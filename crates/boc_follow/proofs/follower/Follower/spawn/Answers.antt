use Rattle.std.proofs.Common.{List, ◌∷◌, [], ◌++◌, map, ap, ◌∙◌, sym, subst}
use Rattle.std.specs.Prelude.{slice_get}
use Rattle.std.proofs.lemmas.Result.{err_from_is_err_and}
use Rattle.boc_program.specs.Changed.{changed}
use Rattle.boc_follow.specs.declared.row.FollowedRow.{FollowedRow}
use Rattle.boc_follow.specs.Standings.{standing_in, with_one_more}
use Rattle.boc_follow.specs.Takes.{WantsMemory}
use Rattle.boc_follow.proofs.Goes.{may_spawn, spawn_goes}
use Rattle.boc_follow.proofs.Logs.{allowed_kept, may_seen, cowns_stay, events_more, seen_more, seen_same}
use Rattle.boc_follow.proofs.follower.Follower.spawn.Goals as goal

pub returns-in_err-make_room : goal.returns-in_err-make_room
returns-in_err-make_room c =
    let allowed = allowed_kept c.self.view_is c.requires.allowed in
    let made = rw (c.deref.ensures.value, c.as_slice.ensures.value) at c.in-Some.ensures in
    let may = may_spawn c.self.invariant allowed c.requires.is.is (standing_in c.in-Some.child) made in
    let p = err_from_is_err_and c.from_residual.result c.from_residual.ensures.1 in
    rw (p.1, p.2) (
      may_seen c.args.event.now c.self.view_is may,
      subst WantsMemory (sym c.requires.is.is) tt,
      seen_same c.self.inside.rules c.self.view_is c.make_room.ensures.log,
    )

pub invariant_of-self-2 : goal.invariant_of-self-2
invariant_of-self-2 c =
    let allowed = allowed_kept c.self.view_is c.requires.allowed in
    let made = rw (c.deref.ensures.value, c.as_slice.ensures.value) at c.in-Some.ensures in
    let put =
    c.put_child.ensures ∙ ap
    (λ (xs : List FollowedRow). changed (map standing_in xs) c.args.parent with_one_more (slice_get (map standing_in xs) c.args.parent) ++
    standing_in c.in-Some.child ∷ []) c.make_room.ensures.rows in
    rw (
      cowns_stay c.self.inside.rules c.duplicate.result c.make_room.ensures.log c.put.ensures,
      events_more c.self.inside.rules c.make_room.ensures.log c.duplicate.ensures c.put.ensures,
    )
    (spawn_goes c.self.invariant allowed c.requires.is.is (standing_in c.in-Some.child) c.put_child.new.rows.items made put)

pub returns : goal.returns
returns c =
    let allowed = allowed_kept c.self.view_is c.requires.allowed in
    let made = rw (c.deref.ensures.value, c.as_slice.ensures.value) at c.in-Some.ensures in
    let may = may_spawn c.self.invariant allowed c.requires.is.is (standing_in c.in-Some.child) made in (
      may_seen c.args.event.now c.self.view_is may,
      seen_more c.args.event.now c.self.view_is (events_more c.self.inside.rules c.make_room.ensures.log c.duplicate.ensures c.put.ensures),
    )
