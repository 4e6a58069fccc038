use Rattle.std.proofs.Common.{◌<◌, List, ◌∷◌, [], ◌++◌, length, sym, subst, refl, arith, ℤ}
use Rattle.std.proofs.lemmas.Result.{err_from_is_err_and}
use Rattle.boc_follow.specs.declared.row.FollowedRow.{FollowedRow}
use Rattle.boc_follow.specs.Following.{IsFollowing}
use Rattle.boc_follow.specs.Standings.{CanStart}
use Rattle.boc_follow.specs.Takes.{WantsMemory}
use Rattle.boc_follow.proofs.Goes.{written_back, may_start_now, start_there, start_fits, start_goes}
use Rattle.boc_follow.proofs.Logs.{allowed_kept, may_seen, events_more, seen_more}
use Rattle.boc_follow.proofs.follower.Follower.start.Goals as goal

pub start_row-requires-clause-there : goal.start_row-requires-clause-there
start_row-requires-clause-there c =
    let allowed = allowed_kept c.self.view_is c.requires.allowed in
    subst (λ (xs : List FollowedRow). c.args.row < length xs) (sym c.deref_mut.ensures.value) (start_there c.self.invariant allowed c.requires.is)

pub start_row-requires-clause-fits : goal.start_row-requires-clause-fits
start_row-requires-clause-fits c s at =
    let allowed = allowed_kept c.self.view_is c.requires.allowed in
    let own = rw c.deref_mut.ensures.value at at in
    subst (λ (vs : List ℤ). CanStart c.self.inside.program.now (length vs) s) (sym c.deref.ensures.value)
    (start_fits c.self.invariant allowed c.requires.is s own)

pub returns-in_err-start_row : goal.returns-in_err-start_row
returns-in_err-start_row c =
    let allowed = allowed_kept c.self.view_is c.requires.allowed in
    let may = may_start_now c.self.invariant allowed c.requires.is in
    let p = err_from_is_err_and c.from_residual.result c.from_residual.ensures.1 in
    rw (p.1, p.2) (may_seen c.args.event.now c.self.view_is may, subst WantsMemory (sym c.requires.is) tt, c.self.view_is)

pub invariant_of-self-2 : goal.invariant_of-self-2
invariant_of-self-2 c =
    let o = c.self.inside in
    let allowed = allowed_kept c.self.view_is c.requires.allowed in
    let put = rw (c.deref_mut.ensures.value, c.deref.ensures.value) at c.in_ok-start_row.ensures.ok in
    let back = written_back c.start_row.new.rows o.rows.items o.rows.len (omega (arith, c.start_row.auto.rows, c.deref_mut.ensures.len, o.rows.ok.0)) in
    rw (c.put.ensures, c.duplicate.ensures)
    (subst (λ (xs : List FollowedRow). IsFollowing o.program.now o.rules.cowns (o.rules.events ++ c.args.event.now ∷ []) xs o.values.items) (sym back)
    (start_goes c.self.invariant allowed c.requires.is c.start_row.new.rows put))

pub returns : goal.returns
returns c =
    let allowed = allowed_kept c.self.view_is c.requires.allowed in
    let may = may_start_now c.self.invariant allowed c.requires.is in (
      may_seen c.args.event.now c.self.view_is may,
      seen_more c.args.event.now c.self.view_is (events_more c.self.inside.rules refl c.duplicate.ensures c.put.ensures),
    )
