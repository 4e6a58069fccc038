use Rattle.std.proofs.Common.{◌∙◌, ap, max}
use Rattle.boc_compare.proofs.FamilyTotals.{most_all, most_more, no_cown}
use Rattle.boc_compare.proofs.families.most_held.Goals as goal

pub loop-hot-preserved : goal.loop-hot-preserved
loop-hot-preserved c = most_more c.args.families.now c.args.family c.args.cowns.now c.loop-hot.hot-index no_cown c.loop-hot-test.true c.loop-hot.most
    c.max-most.result c.loop-hot.invariant (c.max-most.ensures ∙ ap (max c.loop-hot.most) c.held_in.ensures)

pub returns : goal.returns
returns c = most_all c.args.families.now c.args.family c.args.cowns.now c.loop-hot.hot-index c.loop-hot.most c.loop-hot-test.false c.loop-hot.invariant
