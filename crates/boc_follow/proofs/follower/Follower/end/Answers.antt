use Rattle.std.proofs.Common.{◌≡◌, ◌<◌, List, ◌∷◌, [], ◌++◌, length, take, drop, true, sym, subst, refl, arith, rules, ℤ}
use Rattle.std.proofs.lemmas.Option.{slice_get_read}
use Rattle.boc_follow.specs.declared.row.FollowedRow.{FollowedRow}
use Rattle.boc_follow.specs.Following.{IsFollowing}
use Rattle.boc_follow.specs.Standings.{standing_in, EndsSo, CanWrite}
use Rattle.boc_follow.proofs.Nexts.{stands_at}
use Rattle.boc_follow.proofs.Goes.{written_back, end_there, end_fits, end_goes, may_end, may_not_end}
use Rattle.boc_follow.proofs.Logs.{allowed_kept, may_seen, may_kept, events_more, seen_more}
use Rattle.boc_follow.proofs.follower.Follower.end.Goals as goal

pub index-requires : goal.index-requires
index-requires c =
    let allowed = allowed_kept c.self.view_is c.requires.allowed in
    omega (arith, end_there c.self.invariant allowed c.requires.is, c.self.inside.rows.ok.0)

pub returns-then-not-ends_so : goal.returns-then-not-ends_so
returns-then-not-ends_so c =
    let rows = c.self.inside.rows.items in
    let allowed = allowed_kept c.self.view_is c.requires.allowed in
    let row = c.index.result.now in
    let at =
    stands_at rows c.args.row row
    (slice_get_read rows (length rows) c.args.row row refl (end_there c.self.invariant allowed c.requires.is) c.index.ensures) in
    let not_so : EndsSo (standing_in row) c.args.ticks c.args.status c.args.written.now.items → ⊥ = λ ends.
    let yes : c.ends_so.result ≡ true = c.ends_so.ensures.1 (subst (EndsSo (standing_in row) c.args.ticks c.args.status) (sym c.as_slice.ensures.value) ends) in
    absurd (let fails = c.if-not-ends_so.true in cc) in
    (λ may. may_not_end c.self.invariant allowed c.requires.is at not_so (may_kept c.args.event.now c.self.view_is may), refl)

pub end_row-requires-clause-there : goal.end_row-requires-clause-there
end_row-requires-clause-there c =
    let allowed = allowed_kept c.self.view_is c.requires.allowed in
    subst (λ (xs : List FollowedRow). c.args.row < length xs) (sym c.deref_mut.ensures.value) (end_there c.self.invariant allowed c.requires.is)

pub end_row-requires-clause-fits : goal.end_row-requires-clause-fits
end_row-requires-clause-fits c s at =
    let allowed = allowed_kept c.self.view_is c.requires.allowed in
    let own = rw c.deref_mut.ensures.value at at in
    subst (λ (vs : List ℤ). CanWrite (length vs) s) (sym c.deref_mut-2.ensures.value) (end_fits c.self.invariant allowed c.requires.is s own)

pub invariant_of-self : goal.invariant_of-self
invariant_of-self c =
    let o = c.self.inside in
    let rows = o.rows.items in
    let allowed = allowed_kept c.self.view_is c.requires.allowed in
    let row = c.index.result.now in
    let at =
    stands_at rows c.args.row row
    (slice_get_read rows (length rows) c.args.row row refl (end_there c.self.invariant allowed c.requires.is) c.index.ensures) in
    let ends = subst (EndsSo (standing_in row) c.args.ticks c.args.status) c.as_slice.ensures.value (c.ends_so.ensures.0 (search rules)) in
    let put = rw c.deref_mut.ensures.value at c.end_row.ensures.rows in
    let wrote = rw (c.deref_mut.ensures.value, c.deref_mut-2.ensures.value) at c.end_row.ensures.values in
    let rows_back = written_back c.end_row.new.rows rows o.rows.len (omega (arith, c.end_row.auto.rows, c.deref_mut.ensures.len, o.rows.ok.0)) in
    let values_back =
    written_back c.end_row.new.values o.values.items o.values.len (omega (arith, c.end_row.auto.values, c.deref_mut-2.ensures.len, o.values.ok.0)) in
    rw (c.put.ensures, c.duplicate.ensures)
    (subst (λ (xs : List FollowedRow). IsFollowing o.program.now o.rules.cowns (o.rules.events ++ c.args.event.now ∷ []) xs
    (take o.values.len (c.end_row.new.values ++ drop (length c.end_row.new.values) o.values.items))) (sym rows_back)
    (subst (λ (vs : List ℤ). IsFollowing o.program.now o.rules.cowns (o.rules.events ++ c.args.event.now ∷ []) c.end_row.new.rows vs) (sym values_back)
    (end_goes c.self.invariant allowed c.requires.is at c.end_row.new.rows c.end_row.new.values ends put wrote)))

pub returns : goal.returns
returns c =
    let rows = c.self.inside.rows.items in
    let allowed = allowed_kept c.self.view_is c.requires.allowed in
    let row = c.index.result.now in
    let at =
    stands_at rows c.args.row row
    (slice_get_read rows (length rows) c.args.row row refl (end_there c.self.invariant allowed c.requires.is) c.index.ensures) in
    let ends = subst (EndsSo (standing_in row) c.args.ticks c.args.status) c.as_slice.ensures.value (c.ends_so.ensures.0 (search rules)) in (
      may_seen c.args.event.now c.self.view_is (may_end c.self.invariant allowed c.requires.is at ends),
      seen_more c.args.event.now c.self.view_is (events_more c.self.inside.rules refl c.duplicate.ensures c.put.ensures),
    )
