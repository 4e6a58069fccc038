use Rattle.std.proofs.Common.{◌≡◌, ℕ, ◌+◌, ◌<◌, length, get_or, sym, ap, ◌∙◌, subst, arith, length-set}
use Rattle.std.specs.Prelude.{slice_index, slice_set}
use Rattle.std.proofs.lemmas.List.{get_or_read}
use Rattle.boc_runs.specs.declared.rows.Row.{Row}
use Rattle.boc_runs.specs.Rows.{parent_of}
use Rattle.boc_runs.specs.Siblings.{IsLastChild}
use Rattle.boc_runs.proofs.Children.{row_read, rows_fit, parent_there}
use Rattle.boc_runs.proofs.NextChildren.{last_more, elder_more}
use Rattle.boc_runs.proofs.siblings.last_children.Goals as goal

pub loop-row-preserved : goal.loop-row-preserved
loop-row-preserved c =
    let rows = c.args.rows.now in
    let n : ℕ = c.loop-row.row in
    let i = c.loop-row.invariant in
    let lasts = c.loop-row.lasts.items in
    let elders = c.loop-row.elders.items in
    let there : n < length rows = omega (arith, c.loop-row-test.true) in
    let x : Row = c.index-rows-row.result in
    let parent : parent_of rows n ≡ (get_or rows n x).parent = (row_read rows n x there c.index-rows-row.is).parent
    ∙ ap (λ (z : Row). z.parent) c.index-rows-row.is in
    let listed : parent_of rows n < length lasts = omega (arith, parent_there rows n (rows_fit rows c.requires n there) there, i.lasts_whole) in
    let read : c.index.result.now ≡ slice_index lasts (parent_of rows n) =
    get_or_read lasts (get_or rows n x).parent c.index.result.now (omega (arith, parent, listed)) c.index.ensures 0 ∙ ap (slice_index lasts) (sym parent) in
    record {
      lasts_whole = omega (arith, length-set {A = ℕ}, i.lasts_whole);
      elders_whole = omega (arith, length-set {A = ℕ}, i.elders_whole);
      last = subst (λ (p : ℕ). (q : ℕ) → IsLastChild rows q (n + 1) (slice_index (slice_set lasts p n) q)) parent
          (last_more rows c.requires n lasts there listed i.last);
      elder = rw read (elder_more rows n lasts elders (omega (arith, there, i.elders_whole)) i.last i.elder);
    }
