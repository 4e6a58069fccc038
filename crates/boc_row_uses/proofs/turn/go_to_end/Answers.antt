use Rattle.std.proofs.Common.{refl}
use Rattle.boc_row_uses.proofs.Ending.{fewer_left, gone_on, gone_to_end}
use Rattle.boc_row_uses.proofs.turn.go_to_end.Goals as goal

pub loop-init : goal.loop-init
loop-init c = refl

pub loop-smaller : goal.loop-smaller
loop-smaller c = fewer_left c.args.frame.now c.loop.frame c.go_on.new.self c.loop-test.ensures.stop.0 c.loop.invariant c.loop-test.ensures.stop.1

pub loop-preserved : goal.loop-preserved
loop-preserved c = gone_on c.args.frame.now c.loop.frame c.go_on.new.self c.loop-test.ensures.stop.0 c.loop.invariant c.loop-test.ensures.stop.1

pub returns : goal.returns
returns c = gone_to_end c.args.frame.now c.loop.frame c.go_on.new.self c.loop.invariant c.loop-test.ensures.stop
