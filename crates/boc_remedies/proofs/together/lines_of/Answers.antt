use Rattle.std.proofs.Common.{length, refl, arith}
use Rattle.boc_remedies.proofs.Lines.{lines_end, lines_step}
use Rattle.boc_remedies.proofs.together.lines_of.Goals as goal

pub loop-place-preserved : goal.loop-place-preserved
loop-place-preserved c = lines_step c.args.sets.now c.args.left.now c.loop-place.place c.index-sets-place.result c.in_ok-copy.field-0 _
    c.loop-place.lines.items c.push.new.self.items _ c.loop-place-test.true c.requires c.index-sets-place.is
    c.in_ok-copy.ensures c.loop-place.invariant c.in_ok-push.ensures.items

pub returns : goal.returns
returns c = lines_end c.args.sets.now c.args.left.now c.loop-place.place (length c.args.sets.now) _ c.loop-place.lines.items c.push-2.new.self.items _
    (omega (arith, c.loop-place-test.false)) c.loop-place.auto.place-end c.requires refl c.loop-place.invariant c.in_ok-push-2.ensures.items
