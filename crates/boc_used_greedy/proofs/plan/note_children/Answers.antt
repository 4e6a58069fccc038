use Rattle.std.proofs.Common.{◌≡◌, ◌∙◌, ◌+◌, ◌<◌, length, sym, subst, arith}
use Rattle.std.specs.Prelude.{slice_index}
use Rattle.std.proofs.lemmas.List.{get_or_default}
use Rattle.boc_runs.specs.Rows.{parent_of}
use Rattle.boc_greedy.specs.Families.{IsNextChild}
use Rattle.boc_used_greedy.proofs.Noting.{noted_more, has_push, rows_push}
use Rattle.boc_used_greedy.proofs.plan.note_children.Goals as goal

pub loop-child-preserved : goal.loop-child-preserved
loop-child-preserved c =
    let rows = c.args.rows.now in
    let i = c.loop-child.invariant in
    let u = c.requires.users.children in
    let child = c.loop-child.child in
    let next = c.args.users.now.next_child.items in
    let there : child < length rows = omega (arith, c.loop-child-test.true, c.len.ensures.count) in
    let is : c.index-child-in-loop-child.result.now ≡ slice_index next child =
    c.index-child-in-loop-child.ensures ∙ sym (get_or_default next child 0 c.index-child-in-loop-child.result.now (omega (arith, there, u.next_whole))) in
    let after : IsNextChild rows (parent_of rows child) (child + 1) c.index-child-in-loop-child.result.now =
    subst (IsNextChild rows (parent_of rows child) (child + 1)) (sym is) (u.next_is child (omega (arith, (i.noted.is_child there).not_main)) there) in
    rw c.in_ok-push.ensures.items (record {
      noted = noted_more rows c.args.row child _ c.loop-child.list.items i.noted there after;
      has = has_push c.args.list.now.items c.loop-child.list.items child i.has;
      are_rows = rows_push rows c.loop-child.list.items child there i.are_rows;
    })
