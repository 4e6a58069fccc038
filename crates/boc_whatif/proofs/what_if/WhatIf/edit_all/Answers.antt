use Rattle.std.proofs.Common.{◌≡◌, ℕ, ◌+◌, ◌-◌, List, length, take, drop, ◌++◌, subst, arith, ap, sym, ◌∙◌}
use Rattle.std.specs.Prelude.{IfErr, OnOk}
use Rattle.boc_whatif.specs.Asked.{Asked, least_edited}
use Rattle.boc_whatif.proofs.Changing.{written_over}
use Rattle.boc_whatif.proofs.Keeping.{stands_made, count_made, siblings_made, touched_made, touched_some, whole_standing, room_standing, from_standing}
use Rattle.boc_whatif.proofs.Keeping.{waits_standing, first_standing, kept_standing}
use Rattle.boc_whatif.proofs.what_if.WhatIf.edit_all.Goals as goal

pub place_from-requires-clause-room : goal.place_from-requires-clause-room
place_from-requires-clause-room c =
    let k = stands_made _ _ _ _ _ _ _ _ _ _ c.self.invariant c.make_all-from.ensures.made in
    room_standing _ _ _ _ _ _ _ k c.make_all-from.ensures.lasts c.new-rows.ensures.same

pub place_from-requires-clause-from : goal.place_from-requires-clause-from
place_from-requires-clause-from c =
    let k = stands_made _ _ _ _ _ _ _ _ _ _ c.self.invariant c.make_all-from.ensures.made in
    from_standing _ _ _ _ _ _ _ k c.make_all-from.ensures.lasts c.new-rows.ensures.same

pub place_from-requires-clause-before : goal.place_from-requires-clause-before
place_from-requires-clause-before c =
    let k = stands_made _ _ _ _ _ _ _ _ _ _ c.self.invariant c.make_all-from.ensures.made in
    first_standing _ _ _ _ _ _ _ k c.make_all-from.ensures.lasts c.new-rows.ensures.same

pub place_from-requires-clause-waits : goal.place_from-requires-clause-waits
place_from-requires-clause-waits c =
    let k = stands_made _ _ _ _ _ _ _ _ _ _ c.self.invariant c.make_all-from.ensures.made in
    waits_standing _ _ _ _ _ _ _ k c.make_all-from.ensures.lasts c.new-rows.ensures.same

pub overflow_sub-self : goal.overflow_sub-self
overflow_sub-self c =
    let k = stands_made _ _ _ _ _ _ _ _ _ _ c.self.invariant c.make_all-from.ensures.made in
    rw c.len.ensures.count (from_standing _ _ _ _ _ _ _ k c.make_all-from.ensures.lasts c.new-rows.ensures.same)

pub invariant_of-self : goal.invariant_of-self
invariant_of-self c =
    let k = stands_made _ _ _ _ _ _ _ _ _ _ c.self.invariant c.make_all-from.ensures.made in
    let siblings = siblings_made _ _ _ _ _ _ _ _ _ _ c.self.invariant c.make_all-from.ensures.made in
    let kept = kept_standing _ _ _ _ _ _ _ k c.make_all-from.ensures.lasts c.new-rows.ensures.same _ siblings _ c.place_from.ensures.placed c.place_from.ensures.room in
    let count = count_made _ _ _ _ _ _ _ _ _ _ c.self.invariant c.make_all-from.ensures.made in
    let items : List ℕ = c.self.inside.lasts.items in
    let new : List ℕ = c.make_all-from.new.lasts in
    let same : length new ≡ length items = c.make_all-from.ensures.lasts.whole ∙ count ∙ sym c.self.invariant.lasts.whole in
    let whole : c.self.inside.lasts.len ≡ length items = sym c.deref_mut.ensures.len ∙ ap (length {A = ℕ}) c.deref_mut.ensures.value in
    rw (written_over new items c.self.inside.lasts.len same whole) kept

pub returns-clause-touched : goal.returns-clause-touched
returns-clause-touched c =
    let k = stands_made _ _ _ _ _ _ _ _ _ _ c.self.invariant c.make_all-from.ensures.made in
    let seen : length c.self.inside.rows ≡ length c.args.self.now.rows = ap (λ (a : Asked). length a.rows) c.self.view_is in
    let le = from_standing _ _ _ _ _ _ _ k c.make_all-from.ensures.lasts c.new-rows.ensures.same in
    let same = whole_standing _ _ _ _ _ _ _ k c.make_all-from.ensures.lasts c.new-rows.ensures.same in
    let all = count_made _ _ _ _ _ _ _ _ _ _ c.self.invariant c.make_all-from.ensures.made in
    let count : ℕ = c.len.result - c.make_all-from.result.0 in
    let whole : count + c.make_all-from.result.0 ≡ length c.self.inside.rows = omega (arith, le, same, all, c.len.ensures.count) in
    subst (λ (n : ℕ). OnOk c.make_all-from.result.1 (count + least_edited n c.args.edits.now ≡ n)) seen
    (touched_made _ _ _ _ c.make_all-from.result.1 count c.make_all-from.ensures.made whole)

pub returns-clause-some : goal.returns-clause-some
returns-clause-some c =
    let k = stands_made _ _ _ _ _ _ _ _ _ _ c.self.invariant c.make_all-from.ensures.made in
    let seen : length c.self.inside.rows ≡ length c.args.self.now.rows = ap (λ (a : Asked). length a.rows) c.self.view_is in
    let le = from_standing _ _ _ _ _ _ _ k c.make_all-from.ensures.lasts c.new-rows.ensures.same in
    let same = whole_standing _ _ _ _ _ _ _ k c.make_all-from.ensures.lasts c.new-rows.ensures.same in
    let all = count_made _ _ _ _ _ _ _ _ _ _ c.self.invariant c.make_all-from.ensures.made in
    let count : ℕ = c.len.result - c.make_all-from.result.0 in
    let whole : count + c.make_all-from.result.0 ≡ length c.self.inside.rows = omega (arith, le, same, all, c.len.ensures.count) in
    subst (λ (n : ℕ). IfErr c.make_all-from.result.1 (λ u. count + least_edited n (take (u.number - 1) c.args.edits.now) ≡ n)) seen
    (touched_some _ _ _ _ c.make_all-from.result.1 count c.make_all-from.ensures.made whole)
