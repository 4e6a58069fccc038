use Rattle.std.proofs.Common.{arith, ◌+◌}
use Rattle.std.proofs.lemmas.List.{get_or_read}
use Rattle.boc_why.proofs.EarlierSpawns.{step_is, step_inside, step_skips, step_low, step_fits, step_next}
use Rattle.boc_why.proofs.EarlySpawns.{at_once, at_once_less, all_early}
use Rattle.boc_why.proofs.causes.spawn_early.Goals.{then-defs-parent, else-defs-parent}
use Rattle.boc_why.proofs.causes.spawn_early.Goals as goal

pub overflow_add-offset : goal.overflow_add-offset
overflow_add-offset c =
    let s = step_is at_once at_once_less c.args.rows.now c.args.defs.now c.args.def c.loop-row.row c.loop-row.rows c.loop-row.lasts.items
    c.as_slice.result.now c.index-as_slice-row.result c.loop-row.auto.row c.loop-row-test.true c.requires.defs c.as_slice.ensures.shape
    c.as_slice.ensures.same c.index-as_slice-row.is c.loop-row.invariant in
    let last = get_or_read c.loop-row.lasts.items _ c.index.result.now (step_inside _ at_once_less _ _ _ _ _ _ _ s) c.index.ensures 0 in
    omega (arith, step_low _ at_once_less _ _ _ _ _ _ _ s c.if-defs-parent.true c.index.result.now last)

pub set_offset-requires : goal.set_offset-requires
set_offset-requires c =
    let s = step_is at_once at_once_less c.args.rows.now c.args.defs.now c.args.def c.loop-row.row c.loop-row.rows c.loop-row.lasts.items
    c.as_slice.result.now c.index-as_slice-row.result c.loop-row.auto.row c.loop-row-test.true c.requires.defs c.as_slice.ensures.shape
    c.as_slice.ensures.same c.index-as_slice-row.is c.loop-row.invariant in
    let last = get_or_read c.loop-row.lasts.items _ c.index.result.now (step_inside _ at_once_less _ _ _ _ _ _ _ s) c.index.ensures 0 in
    step_fits _ at_once_less _ _ _ _ _ _ _ s c.if-defs-parent.true c.index.result.now last (c.index.result.now + 1) (omega arith)

pub index_mut-requires : goal.index_mut-requires
index_mut-requires c =
    let s = step_is at_once at_once_less c.args.rows.now c.args.defs.now c.args.def c.loop-row.row c.loop-row.rows c.loop-row.lasts.items
    c.as_slice.result.now c.index-as_slice-row.result c.loop-row.auto.row c.loop-row-test.true c.requires.defs c.as_slice.ensures.shape
    c.as_slice.ensures.same c.index-as_slice-row.is c.loop-row.invariant in
    omega (arith, step_inside _ at_once_less _ _ _ _ _ _ _ s, c.loop-row.lasts.ok.0)

pub loop-row-preserved : goal.loop-row-preserved
loop-row-preserved c =
    let s = step_is at_once at_once_less c.args.rows.now c.args.defs.now c.args.def c.loop-row.row c.loop-row.rows c.loop-row.lasts.items
    c.as_slice.result.now c.index-as_slice-row.result c.loop-row.auto.row c.loop-row-test.true c.requires.defs c.as_slice.ensures.shape
    c.as_slice.ensures.same c.index-as_slice-row.is c.loop-row.invariant in
    elim c.if-defs-parent.branch [
      | then-defs-parent w ↦ (
          let last = get_or_read c.loop-row.lasts.items _ w.index.result.now (step_inside _ at_once_less _ _ _ _ _ _ _ s) w.index.ensures 0 in
          rw (w.rows-is, w.lasts-is, w.set_offset.ensures)
          (step_next _ at_once_less _ _ _ _ _ _ _ s w.if-defs-parent.true w.index.result.now last (w.index.result.now + 1) (omega arith)))
      | else-defs-parent w ↦ rw (w.rows-is, w.lasts-is) (step_skips _ at_once_less _ _ _ _ _ _ _ s w.if-defs-parent.false)
    ]

pub returns-clause-early : goal.returns-clause-early
returns-clause-early c = all_early c.args.rows.now c.args.defs.now c.args.def c.loop-row.row c.loop-row.rows c.loop-row.lasts.items
    (omega (arith, c.loop-row-test.false, c.requires.defs)) c.loop-row.invariant
