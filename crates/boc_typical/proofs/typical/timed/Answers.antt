use Rattle.std.proofs.Common.{◌∙◌, ℕ, ap, sym, subst, List, ◌+◌}
use Rattle.std.specs.Prelude.{slice_index}
use Rattle.boc_runs.specs.declared.rows.Row.{Row}
use Rattle.boc_runs.proofs.Scaling.{row_read}
use Rattle.boc_typical.specs.Spread.{AreTimedTo}
use Rattle.boc_typical.proofs.Offsets.{next_timed}
use Rattle.boc_typical.proofs.typical.timed.Goals as goal

pub loop-place-preserved : goal.loop-place-preserved
loop-place-preserved c =
    let rows = c.args.rows.now in
    let n : ℕ = c.loop-place.place in
    let x : Row = c.index-rows-place.result in
    subst (λ (list : List Row). AreTimedTo rows c.args.middles.now c.args.offsets.now c.args.lasts.now (n + 1) list)
    (sym {A = List Row} c.in_ok-push.ensures.items)
    (next_timed rows c.args.middles.now c.args.offsets.now c.args.lasts.now n c.loop-place.list.items x c.timed_row.result c.loop-place.invariant
    (row_read rows n x c.loop-place-test.true c.index-rows-place.is)
    (c.timed_row.ensures ∙ ap (λ (t : ℕ). record x { offset = slice_index c.args.offsets.now n; ticks = t }) c.max-ticks.ensures))
