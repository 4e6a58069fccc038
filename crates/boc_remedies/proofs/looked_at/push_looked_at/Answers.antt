use Rattle.boc_remedies.proofs.Looking.{looked_at_step}
use Rattle.boc_remedies.proofs.looked_at.push_looked_at.Goals as goal

pub loop-place-preserved : goal.loop-place-preserved
loop-place-preserved c = looked_at_step c.args.sets.now c.args.left.now c.loop-place.place c.index-sets-place.result c.in_ok-families.families _
    c.args.looked.now.items c.loop-place.looked.items c.push.new.self.items c.loop-place-test.true c.requires c.index-sets-place.is
    c.in_ok-families.ensures c.loop-place.invariant c.in_ok-push.ensures.items
