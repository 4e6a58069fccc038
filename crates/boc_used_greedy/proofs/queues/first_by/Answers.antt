use Rattle.std.proofs.Common.{arith}
use Rattle.boc_used_greedy.proofs.queues.first_by.Goals as goal

pub returns-clause-there : goal.returns-clause-there
returns-clause-there c =
    let (k, h, by) = c.requires in
    absurd (omega (arith, c.loop-place.invariant k (omega (arith, h, c.loop-place-test.false)), by))

pub returns-clause-come : goal.returns-clause-come
returns-clause-come c =
    let (k, h, by) = c.requires in
    absurd (omega (arith, c.loop-place.invariant k (omega (arith, h, c.loop-place-test.false)), by))
