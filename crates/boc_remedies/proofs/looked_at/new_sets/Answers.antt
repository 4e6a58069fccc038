use Rattle.std.proofs.Common.{[]}
use Rattle.boc_remedies.proofs.Looking.{new_step}
use Rattle.boc_remedies.specs.Questions.{asked}
use Rattle.boc_remedies.proofs.looked_at.new_sets.Goals as goal

pub loop-base-preserved : goal.loop-base-preserved
loop-base-preserved c = new_step (asked c.args.question.now) c.args.looked.now c.args.bases.now c.loop-base.base-index c.base-item.result c.base-item.result []
    c.loop-base.sets.items c.add_joined.new.sets.items c.in_ok-more.more.items c.loop-base-test.true c.base-item.is c.loop-base.invariant
    c.in_ok-more.ensures (rw c.deref.ensures.value at c.in_ok-add_joined.ensures)
