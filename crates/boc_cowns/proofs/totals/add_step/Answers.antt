use Rattle.std.proofs.Common.{arith}
use Rattle.boc_cowns.specs.Hot.{step_hands, weight_at}
use Rattle.boc_cowns.proofs.Sums.{sums_more}
use Rattle.boc_cowns.proofs.totals.add_step.Goals as goal

pub returns : goal.returns
returns c = sums_more (step_hands c.args.rows.now c.args.steps.now) (weight_at c.args.steps.now) c.args.place c.args.totals.now c.requires.sums
    c.add.new.totals c.as_slice.result.now c.weight_at.result c.add.ensures.whole c.add.ensures.each
    (λ cown. rw c.as_slice.ensures.value (c.handed_by-cowns.ensures.each cown)) c.weight_at.ensures.is (omega (arith, c.weight_at.ensures.low))
