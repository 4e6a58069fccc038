use Rattle.std.proofs.Common.{length, arith}
use Rattle.boc_cowns.specs.Hot.{wait_of, waits_over}
use Rattle.boc_cowns.proofs.Sums.{sums_all, sums_begin}
use Rattle.boc_cowns.proofs.Waits.{waits_begin}
use Rattle.boc_cowns.proofs.totals.waits_of.Goals as goal

pub loop-row-init : goal.loop-row-init
loop-row-init c = waits_begin c.args.rows.now c.requires.shape c.args.plan.now.after.items c.args.plan.now.starts.items c.in_ok-totals.totals.items
    (sums_begin (waits_over c.args.rows.now c.args.plan.now.after.items) (wait_of c.args.rows.now c.args.plan.now.starts.items) c.in_ok-totals.totals.items
    (c.in_ok-totals.ensures.items_if_clones_equal (λ y e. e)))

pub returns : goal.returns
returns c = sums_all (waits_over c.args.rows.now c.args.plan.now.after.items) (wait_of c.args.rows.now c.args.plan.now.starts.items) c.loop-row.row
    (length c.args.rows.now) c.loop-row.totals.items (omega (arith, c.loop-row-test.false, c.len-row-end.ensures.count))
    (omega (arith, c.loop-row.auto.row-end, c.len-row-end.ensures.count)) c.loop-row.invariant
