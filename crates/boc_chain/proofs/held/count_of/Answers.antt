use Rattle.std.proofs.Common.{arith}
use Rattle.boc_chain.proofs.Counted.{times_next_same, times_next_other}
use Rattle.boc_chain.proofs.held.count_of.Goals as goal
use Rattle.boc_chain.proofs.held.count_of.Goals.{then-cown-c, else-cown-c}

pub loop-cown-preserved : goal.loop-cown-preserved
loop-cown-preserved c =
    let inside = c.loop-cown-test.true in
    elim c.if-cown-c.branch [
      | then-cown-c w ↦ (let n = times_next_same c.args.c c.args.cowns.now c.loop-cown.cown-index inside w.if-cown-c.true in (omega arith, omega arith))
      | else-cown-c w ↦ (let n = times_next_other c.args.c c.args.cowns.now c.loop-cown.cown-index inside w.if-cown-c.false in (omega arith, omega arith))
    ]
