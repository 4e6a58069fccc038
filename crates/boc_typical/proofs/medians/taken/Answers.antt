use Rattle.boc_typical.proofs.TakenCounts.{taken_all, taken_step}
use Rattle.boc_typical.proofs.medians.taken.Goals as goal

pub loop-place-preserved : goal.loop-place-preserved
loop-place-preserved c = taken_step c.args.rows.now c.args.defs.now c.loop-place.place c.index-rows-place.result c.loop-place.all.items c.push.new.self.items
    c.loop-place-test.true c.requires c.index-rows-place.is c.loop-place.invariant c.in_ok-push.ensures.items

pub returns : goal.returns
returns c = taken_all c.args.rows.now c.args.defs.now c.loop-place.place c.loop-place.all.items c.loop-place-test.false c.requires c.loop-place.invariant
