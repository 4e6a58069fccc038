use Rattle.std.proofs.Common.{◌≡◌, ◌≤◌, ℕ, List, length, take, drop, ◌++◌, arith, ap, sym, ◌∙◌, subst}
use Rattle.boc_runs.specs.declared.rows.Row.{Row}
use Rattle.boc_plans.specs.Edits.{IsChanged}
use Rattle.boc_sweep.specs.Lasts.{HasLasts}
use Rattle.boc_whatif.specs.Asked.{Asked, IsUpToDate}
use Rattle.boc_whatif.proofs.Changing.{changed_length, siblings_changed, on_err, refused, written_over}
use Rattle.boc_whatif.proofs.Keeping.{stands_changed, whole_standing, room_standing, from_standing, waits_standing, first_standing, kept_standing}
use Rattle.boc_whatif.proofs.what_if.WhatIf.make.Goals as goal

pub place_from-requires-clause-room : goal.place_from-requires-clause-room
place_from-requires-clause-room c =
    let k = stands_changed _ _ _ _ _ _ _ _ _ c.self.invariant c.in_ok-make.ensures.made in
    room_standing _ _ _ _ _ _ _ k c.make.ensures.lasts c.new-rows.ensures.same

pub returns-in_err-make-clause-refused : goal.returns-in_err-make-clause-refused
returns-in_err-make-clause-refused c = on_err c.from_residual.result
    (subst (λ (a : Asked). (after : List Row) → IsChanged a.rows c.args.edit.row c.args.edit.change after → ⊥) c.self.view_is
    (refused c.self.inside.rows c.args.edit _ c.in_err-make.ensures.fault))

pub place_from-requires-clause-waits : goal.place_from-requires-clause-waits
place_from-requires-clause-waits c =
    let k = stands_changed _ _ _ _ _ _ _ _ _ c.self.invariant c.in_ok-make.ensures.made in
    waits_standing _ _ _ _ _ _ _ k c.make.ensures.lasts c.new-rows.ensures.same

pub place_from-requires-clause-from : goal.place_from-requires-clause-from
place_from-requires-clause-from c =
    let k = stands_changed _ _ _ _ _ _ _ _ _ c.self.invariant c.in_ok-make.ensures.made in
    from_standing _ _ _ _ _ _ _ k c.make.ensures.lasts c.new-rows.ensures.same

pub place_from-requires-clause-before : goal.place_from-requires-clause-before
place_from-requires-clause-before c =
    let k = stands_changed _ _ _ _ _ _ _ _ _ c.self.invariant c.in_ok-make.ensures.made in
    first_standing _ _ _ _ _ _ _ k c.make.ensures.lasts c.new-rows.ensures.same

pub overflow_sub-self : goal.overflow_sub-self
overflow_sub-self c =
    let k = stands_changed _ _ _ _ _ _ _ _ _ c.self.invariant c.in_ok-make.ensures.made in
    rw c.len.ensures.count (from_standing _ _ _ _ _ _ _ k c.make.ensures.lasts c.new-rows.ensures.same)

pub invariant_of-self-2 : goal.invariant_of-self-2
invariant_of-self-2 c =
    let k = stands_changed _ _ _ _ _ _ _ _ _ c.self.invariant c.in_ok-make.ensures.made in
    let siblings = siblings_changed _ _ _ _ _ c.in_ok-make.ensures.made c.self.invariant.siblings_are in
    let kept = kept_standing _ _ _ _ _ _ _ k c.make.ensures.lasts c.new-rows.ensures.same _ siblings _ c.place_from.ensures.placed c.place_from.ensures.room in
    let changed = changed_length _ _ _ _ c.in_ok-make.ensures.made in
    let items : List ℕ = c.self.inside.lasts.items in
    let same : length c.make.new.lasts ≡ length items = c.make.ensures.lasts.whole ∙ changed ∙ sym c.self.invariant.lasts.whole in
    let whole : c.self.inside.lasts.len ≡ length items = sym c.deref_mut.ensures.len ∙ ap (length {A = ℕ}) c.deref_mut.ensures.value in
    rw (written_over c.make.new.lasts items c.self.inside.lasts.len same whole) kept

pub returns-clause-touched : goal.returns-clause-touched
returns-clause-touched c =
    let k = stands_changed _ _ _ _ _ _ _ _ _ c.self.invariant c.in_ok-make.ensures.made in
    let le = from_standing _ _ _ _ _ _ _ k c.make.ensures.lasts c.new-rows.ensures.same in
    let same = whole_standing _ _ _ _ _ _ _ k c.make.ensures.lasts c.new-rows.ensures.same in
    let changed = changed_length _ _ _ _ c.in_ok-make.ensures.made in
    let seen : length c.self.inside.rows ≡ length c.args.self.now.rows = ap (λ (a : Asked). length a.rows) c.self.view_is in
    omega (arith, le, same, changed, seen, c.len.ensures.count)
