use Rattle.std.proofs.Common.{List, subst, sym, arith}
use Rattle.boc_runs.specs.declared.rows.Row.{Row}
use Rattle.boc_runs.specs.Rows.{IsRows}
use Rattle.boc_runs.proofs.Editing.{rows_edited}
use Rattle.boc_order.specs.Waits.{AreWaits}
use Rattle.boc_greedy.proofs.Forking.{waits_stay}
use Rattle.boc_greedy.proofs.course.end_from.Goals as goal

pub greedy_end-requires-clause-shape : goal.greedy_end-requires-clause-shape
greedy_end-requires-clause-shape c = rw c.requires.changed (rows_edited _ c.requires.shape _ _ c.requires.fits)

pub greedy_end-requires-clause-waits : goal.greedy_end-requires-clause-waits
greedy_end-requires-clause-waits c =
    subst (λ (xs : List Row). AreWaits xs c.args.waits.now) (sym c.requires.changed) (waits_stay _ _ _ _ c.requires.waits)

pub finish-requires-clause-shape : goal.finish-requires-clause-shape
finish-requires-clause-shape c = rw (c.all-timed.ensures, c.requires.changed) (rows_edited _ c.requires.shape _ _ c.requires.fits)

pub latest_end-requires-clause-some : goal.latest_end-requires-clause-some
latest_end-requires-clause-some c =
    let shape : IsRows c.args.changed.now = rw c.requires.changed (rows_edited _ c.requires.shape _ _ c.requires.fits) in
    rw c.all-timed.ensures shape.not_empty

pub latest_end-requires-clause-low : goal.latest_end-requires-clause-low
latest_end-requires-clause-low c =
    let shape : IsRows c.args.changed.now = rw c.requires.changed (rows_edited _ c.requires.shape _ _ c.requires.fits) in
    let d = rw c.all-timed.ensures at c.in_ok-finish.ensures in
    rw (c.deref-2.ensures.value, c.all-timed.ensures) (λ r h. omega (arith, d.low r h, shape.ticks_high r h))

pub all-timed-requires : goal.all-timed-requires
all-timed-requires c = rw c.requires.changed (rows_edited _ c.requires.shape _ _ c.requires.fits)
