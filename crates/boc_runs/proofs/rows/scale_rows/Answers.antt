use Rattle.std.proofs.Common.{◌≡◌, ◌<◌, ◌≤◌, ◌+◌, ℕ, max, length, ap, sym, ◌∙◌, subst, arith}
use Rattle.std.specs.Prelude.{slice_set}
use Rattle.boc_program.specs.declared.limits.TheConstants.{MOST_TICKS}
use Rattle.boc_runs.specs.declared.rows.Row.{Row}
use Rattle.boc_runs.specs.Rows.{parent_of}
use Rattle.boc_runs.specs.Changes.{part_of}
use Rattle.boc_runs.specs.Siblings.{IsNextChild}
use Rattle.boc_runs.proofs.NextChildren.{next_behind}
use Rattle.boc_runs.proofs.Scaling.{row_read, last_below}
use Rattle.boc_runs.proofs.Joining.{none_so_far, skips_to, put_next, finishes}
use Rattle.boc_runs.proofs.rows.scale_rows.Goals as goal

pub loop-child-init : goal.loop-child-init
loop-child-init c =
    let rows = c.args.rows.now in
    let row : ℕ = c.args.row in
    let first : IsNextChild rows row 1 c.first_child-child.result =
    subst (IsNextChild rows row 1) (sym c.first_child-child.ensures) (c.requires.siblings.down.first row c.requires.there) in
    let begun = next_behind rows c.requires.shape row c.first_child-child.result c.requires.there first in
    record {
      begun = begun;
      within = first.below;
      child = λ there. (first.child there).2;
      so_far = λ after s.
          let none = none_so_far rows c.requires.shape row c.args.over c.args.under c.requires.there after s in
          skips_to rows c.requires.shape row c.args.over c.args.under c.requires.there after s (row + 1) c.first_child-child.result
          (omega (arith, begun)) first.below (λ b above below child. first.none_between b (omega (arith, above)) below child) 0 rows none.0 none.1;
    }

few_ticks : (ticks own : ℕ) → ticks ≡ own → ticks ≤ MOST_TICKS → own ≤ MOST_TICKS
few_ticks ticks own is few = omega (arith, is, few)

pub overflow_add-last : goal.overflow_add-last
overflow_add-last c =
    let h = c.requires.ticks in
    let few = few_ticks _ _ h.2 c.requires.few in
    omega (
      arith,
      few,
      last_below c.args.rows.now c.requires.shape c.args.row c.args.over c.args.under h.0 h.1 c.requires.there few c.loop-child.child c.loop-child.last
          c.loop-child.invariant.within (c.loop-child.invariant.so_far h.0 h.1).1,
    )

pub overflow_cast-rows : goal.overflow_cast-rows
overflow_cast-rows c =
    let (after, s, is) = c.requires.ticks in
    let few = few_ticks _ _ is c.requires.few in
    let rows = c.args.rows.now in
    let n : ℕ = c.loop-child.child in
    let here : n < length rows = omega (arith, c.loop-child.auto.rows, c.loop-child-test.true) in
    let stands : n < length c.loop-child.rows = omega (arith, c.loop-child.auto.rows, here) in
    let before = c.loop-child.invariant.so_far after s in
    let y : Row = c.index-rows-child.result in
    let read = row_read c.loop-child.rows n y stands c.index-rows-child.is in
    let step = put_next rows c.requires.shape c.args.row c.args.over c.args.under c.requires.there after s n here
    (omega (arith, c.loop-child.invariant.begun)) c.loop-child.last c.loop-child.rows before.0 before.1 y y read read
    (c.loop-child.invariant.child here) c.max-offset.result
    (c.max-offset.ensures ∙ ap (λ (k : ℕ). max k (c.loop-child.last + 1)) (c.part.ensures
    ∙ ap (λ (z : Row). part_of c.args.over c.args.under z.offset) (sym c.index-rows-child.is))) in
    omega (
      arith,
      few,
      last_below rows c.requires.shape c.args.row c.args.over c.args.under after s c.requires.there few (n + 1) c.max-offset.result (omega (arith, here))
          step.1,
    )

pub loop-child-preserved : goal.loop-child-preserved
loop-child-preserved c =
    let rows = c.args.rows.now in
    let row : ℕ = c.args.row in
    let n : ℕ = c.loop-child.child in
    let m : ℕ = c.younger-child.result in
    let some : 0 < n = omega (arith, c.loop-child.invariant.begun) in
    let here : n < length rows = omega (arith, c.loop-child.auto.rows, c.loop-child-test.true) in
    let stands : n < length c.loop-child.rows = omega (arith, c.loop-child.auto.rows, here) in
    let child : parent_of rows n ≡ row = c.loop-child.invariant.child here in
    let next : IsNextChild rows row (n + 1) m = rw (child, sym c.younger-child.ensures) at (c.requires.siblings.down.younger n some here) in
    let y : Row = c.index-rows-child.result in
    let z : Row = c.index-rows-child-in-loop-child.result in
    record {
      begun = omega (arith, c.loop-child.invariant.begun, next.above);
      within = next.below;
      child = λ h. (next.child h).2;
      so_far = λ after s.
          let before = c.loop-child.invariant.so_far after s in
          let put = put_next rows c.requires.shape row c.args.over c.args.under c.requires.there after s n here some c.loop-child.last
          c.loop-child.rows before.0 before.1 y z (row_read c.loop-child.rows n y stands c.index-rows-child.is)
          (row_read c.loop-child.rows n z stands c.index-rows-child-in-loop-child.is) child c.max-offset.result
          (c.max-offset.ensures ∙ ap (λ (k : ℕ). max k (c.loop-child.last + 1)) (c.part.ensures
          ∙ ap (λ (z : Row). part_of c.args.over c.args.under z.offset) (sym c.index-rows-child.is))) in
          skips_to rows c.requires.shape row c.args.over c.args.under c.requires.there after s (n + 1) m next.above next.below next.none_between
          c.max-offset.result _
          (ap (λ (k : Row). slice_set c.loop-child.rows n (record k { offset = c.max-offset.result })) (sym c.index-rows-child-in-loop-child.is) ∙ put.0) put.1;
    }

pub returns : goal.returns
returns c =
    let (after, s, is) = c.requires.ticks in
    let rows = c.args.rows.now in
    let x : Row = c.index-rows-row.result in
    let read = row_read c.loop-child.rows c.args.row x (omega (arith, c.loop-child.auto.rows, c.requires.there)) c.index-rows-row.is in
    let done = finishes rows c.requires.shape c.args.row c.args.over c.args.under c.requires.there after s c.loop-child.child
    (omega (arith, c.loop-child-test.false)) x c.loop-child.rows (c.loop-child.invariant.so_far after s).0 read in
    let all : slice_set c.loop-child.rows c.args.row (record x { ticks = c.args.ticks }) ≡ after =
    ap (λ (k : ℕ). slice_set c.loop-child.rows c.args.row (record x { ticks = k })) is ∙ done in
    let put = ap (λ (k : Row). slice_set c.loop-child.rows c.args.row (record k { ticks = c.args.ticks })) (sym c.index-rows-row.is) ∙ all in
    rw put (record { scaled = s; ticks = sym is })
