use Rattle.std.proofs.Common.{◌≡◌, ◌∙◌, ℕ, ◌+◌, ◌-◌, ◌<◌, sym, subst, ap, arith, length}
use Rattle.std.specs.Prelude.{slice_index}
use Rattle.std.proofs.lemmas.List.{get_or_default}
use Rattle.boc_runs.specs.Rows.{parent_of}
use Rattle.boc_used_greedy.specs.Users.{AreUsersFrom, AreChildrenFrom}
use Rattle.boc_used_greedy.proofs.Using.{children_more}
use Rattle.boc_used_greedy.proofs.UsingMore.{all_written}
use Rattle.boc_used_greedy.proofs.users.users_of.Goals as goal

pub loop-row-preserved : goal.loop-row-preserved
loop-row-preserved c =
    let rows = c.args.rows.now in
    let hr = c.requires.shape in
    let i = c.loop-row.invariant in
    let row : ℕ = c.loop-row.row - 1 in
    let u = c.note_row.ensures in
    let there : row < length rows = omega (arith, c.loop-row-test.true, i.few) in
    let above : 0 < row = omega (arith, c.loop-row-test.true) in
    let first = all_written c.loop-row.first.items c.note_row.new.first c.loop-row.first.len
    (omega (arith, c.loop-row.first.ok.0, i.cowns.first_whole, u.first_whole)) in
    let next = all_written c.loop-row.next.items c.note_row.new.next c.loop-row.next.len
    (omega (arith, c.loop-row.next.ok.0, i.cowns.next_whole, u.next_whole)) in
    let children = c.loop-row.first_child.items in
    let before : AreChildrenFrom rows (row + 1) children c.loop-row.next_child.items =
    subst (λ (k : ℕ). AreChildrenFrom rows k children c.loop-row.next_child.items) (omega (arith, c.loop-row-test.true)) i.children in
    let low : parent_of rows row < length children = omega (arith, hr.parent_before row above there, there, i.children.first_whole) in
    let parent : c.parent-parent.result ≡ parent_of rows row = c.parent-parent.ensures in
    let read : c.index.result.now ≡ slice_index children (parent_of rows row) =
    c.index.ensures
    ∙ (sym (get_or_default children c.parent-parent.result 0 c.index.result.now (omega (arith, low, parent))) ∙ ap (slice_index children) parent) in
    record {
      cowns = rw (first, next) u;
      children = rw (parent, read) (children_more rows hr row children c.loop-row.next_child.items above there before);
      some = omega (arith, c.loop-row-test.true);
      few = omega (arith, there);
    }

pub returns : goal.returns
returns c =
    let rows = c.args.rows.now in
    let i = c.loop-row.invariant in
    let one : c.loop-row.row ≡ 1 = omega (arith, c.loop-row-test.false, i.some) in
    record {
      cowns = subst (λ (k : ℕ). AreUsersFrom rows k c.loop-row.first.items c.loop-row.next.items) one i.cowns;
      children = subst (λ (k : ℕ). AreChildrenFrom rows k c.loop-row.first_child.items c.loop-row.next_child.items) one i.children;
    }
