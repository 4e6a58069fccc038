use Rattle.std.proofs.Common.{arith}
use Rattle.boc_order.proofs.Working.{work_more}
use Rattle.boc_order.proofs.analysis.work_between.Goals as goal

pub loop-row-preserved : goal.loop-row-preserved
loop-row-preserved c =
    let n = c.loop-row.row in
    let below = c.loop-row-test.true in
    record {
      low = omega (arith, c.loop-row.invariant.low, c.requires.ordered n below, c.requires.short n below);
      is = λ rows h. work_more rows c.args.starts.now c.args.ends.now n c.loop-row.total h below (c.loop-row.invariant.is rows h);
    }
