use Rattle.std.proofs.Common.{sym, subst, ◌∙◌, arith}
use Rattle.std.proofs.lemmas.List.{get_or_default}
use Rattle.boc_runs.specs.Rows.{IsRows}
use Rattle.boc_runs.proofs.Scaling.{row_read}
use Rattle.boc_why.proofs.LeftOutCowns.{written_among, left_all, rows_without_all}
use Rattle.boc_why.proofs.causes.without_all.Goals as goal

pub freed-requires-clause-among : goal.freed-requires-clause-among
freed-requires-clause-among c =
    let now = c.as_slice-row-items.result.now in
    let shape = subst IsRows (sym c.as_slice-row-items.ensures.same) c.as_slice-row-items.ensures.shape in
    written_among now shape c.loop-row.row-index c.row-item.result
    (row_read now c.loop-row.row-index c.row-item.result c.loop-row-test.true c.row-item.is)

pub new-requires : goal.new-requires
new-requires c =
    let left = left_all c.args.cowns.now c.in_ok-is_left_out.is_left_out.items c.args.rows c.as_slice-row-items.result.now c.loop-row.left.items
    c.loop-row.row-index (λ k d h. omega (arith, c.type_inv.cowns k, get_or_default c.args.cowns.now k d 0 h)) c.in_ok-is_left_out.ensures
    c.as_slice-row-items.ensures.same c.loop-row-test.false c.loop-row.invariant.left in
    subst IsRows (sym left) (rows_without_all c.args.cowns.now c.args.rows c.as_slice-row-items.ensures.shape)

pub returns : goal.returns
returns c =
    c.new.ensures ∙ left_all c.args.cowns.now c.in_ok-is_left_out.is_left_out.items c.args.rows c.as_slice-row-items.result.now c.loop-row.left.items
    c.loop-row.row-index (λ k d h. omega (arith, c.type_inv.cowns k, get_or_default c.args.cowns.now k d 0 h)) c.in_ok-is_left_out.ensures
    c.as_slice-row-items.ensures.same c.loop-row-test.false c.loop-row.invariant.left
