use Rattle.std.proofs.Common.{arith}
use Rattle.std.proofs.lemmas.List.{get_or_read}
use Rattle.boc_why.specs.Causes.{half_of}
use Rattle.boc_why.proofs.EarlierSpawns.{step_of, step_inside, step_offset, step_skips, step_low, step_fits, step_next}
use Rattle.boc_why.proofs.Halving.{half_less, offsets_halved}
use Rattle.boc_why.proofs.causes.halve_offsets.Goals.{then-defs-parent, else-defs-parent}
use Rattle.boc_why.proofs.causes.halve_offsets.Goals as goal

pub overflow_add-index : goal.overflow_add-index
overflow_add-index c =
    let s = step_of half_of half_less c.args.rows.now c.args.defs.now c.args.def c.loop-row.row c.loop-row.rows c.loop-row.lasts.items
    c.as_slice.result.now c.index-as_slice-row.result c.loop-row.auto.row c.loop-row-test.true c.requires.defs c.as_slice.ensures.shape
    c.as_slice.ensures.same c.index-as_slice-row.is c.loop-row.invariant in
    let last = get_or_read c.loop-row.lasts.items _ c.index.result.now (step_inside _ half_less _ _ _ _ _ _ _ s) c.index.ensures 0 in
    omega (arith, step_low _ half_less _ _ _ _ _ _ _ s c.if-defs-parent.true c.index.result.now last)

pub set_offset-requires : goal.set_offset-requires
set_offset-requires c =
    let s = step_of half_of half_less c.args.rows.now c.args.defs.now c.args.def c.loop-row.row c.loop-row.rows c.loop-row.lasts.items
    c.as_slice.result.now c.index-as_slice-row.result c.loop-row.auto.row c.loop-row-test.true c.requires.defs c.as_slice.ensures.shape
    c.as_slice.ensures.same c.index-as_slice-row.is c.loop-row.invariant in
    let own = step_offset half_of half_less c.args.rows.now c.args.defs.now c.args.def c.loop-row.row c.loop-row.rows c.loop-row.lasts.items
    c.as_slice.result.now c.index-as_slice-row.result _ c.as_slice.ensures.same c.index-as_slice-row.is s in
    let last = get_or_read c.loop-row.lasts.items _ c.index.result.now (step_inside _ half_less _ _ _ _ _ _ _ s) c.index.ensures 0 in
    step_fits _ half_less _ _ _ _ _ _ _ s c.if-defs-parent.true c.index.result.now last c.max-offset.result
    (omega (arith, c.max-offset.ensures, c.div_ceil.ensures, own))

pub index_mut-requires : goal.index_mut-requires
index_mut-requires c =
    let s = step_of half_of half_less c.args.rows.now c.args.defs.now c.args.def c.loop-row.row c.loop-row.rows c.loop-row.lasts.items
    c.as_slice.result.now c.index-as_slice-row.result c.loop-row.auto.row c.loop-row-test.true c.requires.defs c.as_slice.ensures.shape
    c.as_slice.ensures.same c.index-as_slice-row.is c.loop-row.invariant in
    omega (arith, step_inside _ half_less _ _ _ _ _ _ _ s, c.loop-row.lasts.ok.0)

pub loop-row-preserved : goal.loop-row-preserved
loop-row-preserved c =
    let s = step_of half_of half_less c.args.rows.now c.args.defs.now c.args.def c.loop-row.row c.loop-row.rows c.loop-row.lasts.items
    c.as_slice.result.now c.index-as_slice-row.result c.loop-row.auto.row c.loop-row-test.true c.requires.defs c.as_slice.ensures.shape
    c.as_slice.ensures.same c.index-as_slice-row.is c.loop-row.invariant in
    let own = step_offset half_of half_less c.args.rows.now c.args.defs.now c.args.def c.loop-row.row c.loop-row.rows c.loop-row.lasts.items
    c.as_slice.result.now c.index-as_slice-row.result _ c.as_slice.ensures.same c.index-as_slice-row.is s in
    elim c.if-defs-parent.branch [
      | then-defs-parent w ↦ (
          let last = get_or_read c.loop-row.lasts.items _ w.index.result.now (step_inside _ half_less _ _ _ _ _ _ _ s) w.index.ensures 0 in
          rw (w.rows-is, w.lasts-is, w.set_offset.ensures)
          (step_next _ half_less _ _ _ _ _ _ _ s w.if-defs-parent.true w.index.result.now last w.max-offset.result
          (omega (arith, w.max-offset.ensures, w.div_ceil.ensures, own))))
      | else-defs-parent w ↦ rw (w.rows-is, w.lasts-is) (step_skips _ half_less _ _ _ _ _ _ _ s w.if-defs-parent.false)
    ]

pub returns-clause-halved : goal.returns-clause-halved
returns-clause-halved c = offsets_halved c.args.rows.now c.args.defs.now c.args.def c.loop-row.row c.loop-row.rows c.loop-row.lasts.items
    (omega (arith, c.loop-row-test.false, c.requires.defs)) (λ h. omega (arith, c.loop-row.auto.row-end (omega (arith, h, c.requires.defs)), c.requires.defs))
    c.loop-row.invariant
