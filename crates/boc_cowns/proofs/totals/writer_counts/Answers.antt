use Rattle.std.proofs.Common.{length, arith}
use Rattle.boc_order.specs.Least.{wrote_cown}
use Rattle.boc_cowns.specs.Hot.{one}
use Rattle.boc_cowns.proofs.Sums.{sums_all}
use Rattle.boc_cowns.proofs.totals.writer_counts.Goals as goal

pub returns : goal.returns
returns c = sums_all (wrote_cown c.args.rows.now) one c.loop-row.row (length c.args.rows.now) c.loop-row.totals.items (omega (arith, c.loop-row-test.false))
    (omega (arith, c.loop-row.auto.row-end)) c.loop-row.invariant
