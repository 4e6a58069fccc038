use Rattle.std.proofs.Common.{arith}
use Rattle.boc_eager.proofs.swap.passed_by.Goals as goal

pub returns : goal.returns
returns c = λ ahead. c.loop-row.invariant ahead.0 (let before = ahead.1.ordered.before in omega (arith, before, c.loop-row-test.false)) ahead.1
