use Rattle.std.proofs.Common.{◌≡◌, ℕ, ◌+◌, ◌-◌, ◌<◌, ◌≤◌, length, get_or, sym, ap, ◌∙◌, subst, arith, length-set}
use Rattle.std.specs.Prelude.{slice_index, slice_set}
use Rattle.std.proofs.lemmas.List.{get_or_read}
use Rattle.boc_runs.specs.declared.rows.Row.{Row}
use Rattle.boc_runs.specs.Rows.{parent_of}
use Rattle.boc_runs.specs.Siblings.{IsNextChild}
use Rattle.boc_runs.proofs.Children.{row_read, rows_fit, parent_there}
use Rattle.boc_runs.proofs.NextChildren.{first_more, younger_more}
use Rattle.boc_runs.proofs.siblings.first_children.Goals as goal

pub loop-row-preserved : goal.loop-row-preserved
loop-row-preserved c =
    let rows = c.args.rows.now in
    let n : ℕ = c.loop-row.row - 1 in
    let i = c.loop-row.invariant in
    let firsts = c.loop-row.firsts.items in
    let youngers = c.loop-row.youngers.items in
    let some : 0 < n = omega (arith, c.loop-row-test.true) in
    let before : c.loop-row.row ≡ n + 1 = omega (arith, c.loop-row-test.true) in
    let there : n < length rows = omega (arith, c.loop-row-test.true, i.within) in
    let x : Row = c.index-rows-row.result in
    let parent : parent_of rows n ≡ (get_or rows n x).parent = (row_read rows n x there c.index-rows-row.is).parent
    ∙ ap (λ (z : Row). z.parent) c.index-rows-row.is in
    let inside : parent_of rows n < length rows = parent_there rows n (rows_fit rows c.requires n there) there in
    let listed : parent_of rows n < length firsts = omega (arith, inside, i.firsts_whole) in
    let read : c.index.result.now ≡ slice_index firsts (parent_of rows n) =
    get_or_read firsts (get_or rows n x).parent c.index.result.now (omega (arith, parent, listed)) c.index.ensures 0 ∙ ap (slice_index firsts) (sym parent) in
    let first = subst (λ (k : ℕ). (p : ℕ) → p < length rows → IsNextChild rows p k (slice_index firsts p)) before i.first in
    let younger = subst (λ (k : ℕ). (r : ℕ) → k ≤ r → r < length rows → IsNextChild rows (parent_of rows r) (r + 1) (slice_index youngers r)) before i.younger in
    record {
      within = omega (arith, there);
      firsts_whole = omega (arith, length-set {A = ℕ}, i.firsts_whole);
      youngers_whole = omega (arith, length-set {A = ℕ}, i.youngers_whole);
      first = subst (λ (p : ℕ). (q : ℕ) → q < length rows → IsNextChild rows q n (slice_index (slice_set firsts p n) q)) parent
          (first_more rows n firsts some there listed first);
      younger = rw read (younger_more rows n firsts youngers (omega (arith, there, i.youngers_whole)) inside first younger);
    }
