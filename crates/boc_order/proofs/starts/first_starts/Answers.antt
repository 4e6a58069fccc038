use Rattle.std.proofs.Common.{length, arith}
use Rattle.boc_order.proofs.FirstStarts.{firsts_all}
use Rattle.boc_order.proofs.starts.first_starts.Goals as goal

pub returns : goal.returns
returns c = firsts_all c.args.rows.now c.args.starts.now c.loop-row.row (length c.args.rows.now) c.loop-row.firsts.items
    (omega (arith, c.loop-row-test.false, c.len-row-end.ensures.count)) (omega (arith, c.loop-row.auto.row-end, c.len-row-end.ensures.count))
    c.loop-row.invariant
