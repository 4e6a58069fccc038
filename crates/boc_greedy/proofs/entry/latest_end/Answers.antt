use Rattle.std.proofs.Common.{arith}
use Rattle.boc_greedy.proofs.Latest.{latest_more, latest_of_all}
use Rattle.boc_greedy.proofs.entry.latest_end.Goals as goal

pub loop-row-preserved : goal.loop-row-preserved
loop-row-preserved c = rw c.max-latest.ensures
    (latest_more c.args.rows.now c.args.starts.now c.loop-row.row c.loop-row.latest _ c.loop-row.invariant (omega (arith, c.from.ensures, c.ticks.ensures)))

pub returns : goal.returns
returns c = latest_of_all c.args.rows.now c.args.starts.now c.loop-row.row c.loop-row.latest c.requires.some
    (omega (arith, c.loop-row.auto.row-end, c.loop-row-test.false, c.requires.whole)) c.loop-row.invariant
