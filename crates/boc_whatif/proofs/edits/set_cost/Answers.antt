use Rattle.std.proofs.Common.{◌≡◌, List, length, ap, sym, ◌∙◌, subst, arith}
use Rattle.boc_runs.specs.declared.rows.Row.{Row}
use Rattle.boc_runs.specs.Rows.{IsLast}
use Rattle.boc_runs.proofs.NextChildren.{siblings_stay}
use Rattle.boc_runs.proofs.Scaling.{same_parents}
use Rattle.boc_whatif.proofs.Changing.{lasts_put}
use Rattle.boc_whatif.proofs.edits.set_cost.Goals as goal

pub last_child-requires-clause-siblings : goal.last_child-requires-clause-siblings
last_child-requires-clause-siblings c =
    let s = (c.scale.ensures.scaled c.if-not-scale.false).0 in
    rw c.as_slice.ensures.same (siblings_stay c.args.rows.now c.scale.new.self s.whole (same_parents c.args.rows.now c.scale.new.self s.same)
    c.args.siblings.now c.requires.siblings)

pub last_child-requires-clause-there : goal.last_child-requires-clause-there
last_child-requires-clause-there c =
    let s = (c.scale.ensures.scaled c.if-not-scale.false).0 in
    rw c.as_slice.ensures.same (omega (arith, s.whole, c.requires.there))

pub returns-clause-lasts : goal.returns-clause-lasts
returns-clause-lasts c =
    let s = (c.scale.ensures.scaled c.if-not-scale.false).0 in
    lasts_put c.args.rows.now c.scale.new.self c.args.lasts.now c.args.row c.last_child.result c.requires.lasts s.whole
    (same_parents c.args.rows.now c.scale.new.self s.same) (λ b some there other. s.other_offsets b (λ child. other child.2))
    (subst (λ (list : List Row). IsLast list (length list) c.args.row c.last_child.result) c.as_slice.ensures.same c.last_child.ensures) c.requires.there
