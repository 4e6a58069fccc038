use Rattle.std.proofs.Common.{arith}
use Rattle.boc_why.proofs.LeftOutCowns.{marks_more}
use Rattle.boc_why.proofs.causes.marks_of.Goals as goal

pub loop-cown-preserved : goal.loop-cown-preserved
loop-cown-preserved c = marks_more c.args.cowns.now c.loop-cown.cown-index 0 c.loop-cown.marks.items c.loop-cown-test.true
    (omega (arith, c.type_inv.cowns c.loop-cown.cown-index)) c.loop-cown.invariant
