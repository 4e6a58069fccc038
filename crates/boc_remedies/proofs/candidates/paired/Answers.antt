use Rattle.boc_remedies.proofs.Pairing.{paired_step}
use Rattle.boc_remedies.proofs.candidates.paired.Goals as goal

pub loop-place-preserved : goal.loop-place-preserved
loop-place-preserved c = paired_step c.args.remedies.now c.args.left.now c.loop-place.place c.index-remedies-place.result c.in_ok-copy.field-0 _
    c.loop-place.all.items c.push.new.self.items c.loop-place-test.true c.requires c.index-remedies-place.is c.in_ok-copy.ensures c.loop-place.invariant
    c.in_ok-push.ensures.items
