use Rattle.std.proofs.Common.{arith}
use Rattle.boc_greedy.proofs.Waking.{wait_there}
use Rattle.boc_remedies.proofs.ends.ends_of.Goals as goal

pub followers-requires-clause-inside : goal.followers-requires-clause-inside
followers-requires-clause-inside c = λ b a has. (
    let waits = c.in_ok-waits.ensures.waits in
    let p = wait_there _ c.in_ok-waits.waits waits b a has in
    omega (arith, p.0, p.1, waits.whole))
