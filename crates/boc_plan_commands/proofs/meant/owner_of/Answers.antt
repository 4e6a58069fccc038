use Rattle.boc_plan_commands.proofs.MeantParts.{owner_there}
use Rattle.boc_plan_commands.proofs.meant.owner_of.Goals as goal

pub returns-then-left-count : goal.returns-then-left-count
returns-then-left-count c =
    owner_there c.args.counts.now c.loop-index.index c.args.place c.loop-index.left c.loop-index-test.true c.loop-index.invariant c.if-left-count.true
