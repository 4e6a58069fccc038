use Rattle.std.proofs.Common.{◌≡◌, ◌<◌, ◌+◌, ℕ, max, length, ap, sym, ◌∙◌, subst, arith, Some, Option}
use Rattle.std.specs.Option.{option_map_or}
use Rattle.std.specs.Prelude.{slice_get}
use Rattle.boc_runs.specs.declared.rows.Row.{Row}
use Rattle.boc_runs.specs.Rows.{parent_of, offset_of, ticks_of, edited}
use Rattle.boc_runs.specs.Changes.{moved, part_of}
use Rattle.boc_runs.specs.Siblings.{IsNextChild}
use Rattle.boc_runs.proofs.Editing.{ticks_of-edited_same}
use Rattle.boc_runs.proofs.NextChildren.{next_behind}
use Rattle.boc_runs.proofs.Scaling.{AreScaledTo, row_read, none_scaled, skips_scaled, child_scaled, all_scaled, part_low, offset_low}
use Rattle.boc_runs.proofs.rows.scaled_ticks.Goals as goal

pub loop-child-init : goal.loop-child-init
loop-child-init c =
    let rows = c.args.rows.now in
    let row : ℕ = c.args.row in
    let first : IsNextChild rows row 1 c.first_child-child.result =
    subst (IsNextChild rows row 1) (sym c.first_child-child.ensures) (c.requires.siblings.down.first row c.requires.there) in
    let begun = next_behind rows c.requires.shape row c.first_child-child.result c.requires.there first in
    record {
      begun = begun;
      within = first.below;
      child = λ there. (first.child there).2;
      low = omega arith;
      scaled = (
        rows,
        skips_scaled rows c.requires.shape row c.args.over c.args.under (row + 1) c.first_child-child.result (omega (arith, begun)) first.below
            (λ b above below child. first.none_between b (omega (arith, above)) below child) rows 0
            (none_scaled rows c.requires.shape row c.args.over c.args.under),
      );
    }

pub loop-child-preserved : goal.loop-child-preserved
loop-child-preserved c =
    let rows = c.args.rows.now in
    let row : ℕ = c.args.row in
    let n : ℕ = c.loop-child.child in
    let m : ℕ = c.younger-child.result in
    let before = c.loop-child.invariant in
    let some : 0 < n = omega (arith, before.begun) in
    let there : n < length rows = c.loop-child-test.true in
    let child : parent_of rows n ≡ row = before.child there in
    let next : IsNextChild rows row (n + 1) m = rw (child, sym c.younger-child.ensures) at (c.requires.siblings.down.younger n some there) in
    let y : Row = c.index-rows-child.result in
    let read : slice_get rows n ≡ Some y = row_read rows n y there c.index-rows-child.is in
    let offset : offset_of rows n ≡ y.offset = ap (λ (o : Option Row). option_map_or (λ (z : Row). z.offset) o 0) read in
    let part : c.part.result ≡ part_of c.args.over c.args.under (offset_of rows n) =
    c.part.ensures ∙ ap (λ (z : Row). part_of c.args.over c.args.under z.offset) (sym c.index-rows-child.is)
    ∙ ap (part_of c.args.over c.args.under) (sym offset) in
    let is : c.max-last.result ≡ max (part_of c.args.over c.args.under (offset_of rows n)) (c.loop-child.last + 1) =
    c.max-last.ensures ∙ ap (λ (k : ℕ). max k (c.loop-child.last + 1)) part in
    record {
      begun = omega (arith, before.begun, next.above);
      within = next.below;
      child = λ h. (next.child h).2;
      low = omega (
        arith,
        is,
        before.low,
        next.above,
        part_low c.args.over c.args.under (offset_of rows n) c.requires.some (offset_low rows c.requires.shape n there),
      );
      scaled = (
        moved before.scaled.0 n c.max-last.result,
        skips_scaled rows c.requires.shape row c.args.over c.args.under (n + 1) m next.above next.below next.none_between
            (moved before.scaled.0 n c.max-last.result) c.max-last.result
            (child_scaled rows c.requires.shape row c.args.over c.args.under n there some before.scaled.0 c.loop-child.last before.scaled.1 child
            c.max-last.result is),
      );
    }

pub returns : goal.returns
returns c =
    let rows = c.args.rows.now in
    let before = c.loop-child.invariant in
    let all : c.loop-child.child ≡ length rows = omega (arith, before.within, c.loop-child-test.false) in
    let x : Row = c.index-rows-row.result in
    let read : slice_get rows c.args.row ≡ Some x = row_read rows c.args.row x c.requires.there c.index-rows-row.is in
    let ticks : ticks_of rows c.args.row ≡ x.ticks = ap (λ (o : Option Row). option_map_or (λ (z : Row). z.ticks) o 0) read in
    let part : c.part-2.result ≡ part_of c.args.over c.args.under (ticks_of rows c.args.row) =
    c.part-2.ensures ∙ ap (λ (z : Row). part_of c.args.over c.args.under z.ticks) (sym c.index-rows-row.is)
    ∙ ap (part_of c.args.over c.args.under) (sym ticks) in
    let scaled = subst (λ (n : ℕ). AreScaledTo rows c.args.row c.args.over c.args.under n before.scaled.0 c.loop-child.last) all before.scaled.1 in (
      edited before.scaled.0 c.args.row c.max-2.result,
      all_scaled rows c.requires.shape c.args.row c.args.over c.args.under before.scaled.0 c.loop-child.last c.max-2.result c.requires.there scaled
          (omega (arith, c.max-2.ensures, c.max.ensures, part)),
      sym (ticks_of-edited_same before.scaled.0 c.args.row c.max-2.result (omega (arith, scaled.whole, c.requires.there))),
    )
