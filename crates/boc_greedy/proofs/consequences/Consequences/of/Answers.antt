use Rattle.std.proofs.Common.{arith}
use Rattle.boc_greedy.proofs.Waking.{wait_there}
use Rattle.boc_greedy.proofs.consequences.Consequences.of.Goals as goal

pub followers-requires-clause-few : goal.followers-requires-clause-few
followers-requires-clause-few c = omega (arith, c.requires.waits.whole, c.requires.shape.not_many)

pub followers-requires-clause-inside : goal.followers-requires-clause-inside
followers-requires-clause-inside c = λ b a has. (let p = wait_there c.args.rows.now c.args.waits.now c.requires.waits b a has in
    omega (arith, p.0, p.1, c.requires.waits.whole))
