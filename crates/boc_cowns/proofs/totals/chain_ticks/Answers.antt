use Rattle.std.proofs.Common.{length, arith}
use Rattle.boc_cowns.specs.Hot.{step_hands, weight_at}
use Rattle.boc_cowns.proofs.Sums.{sums_all}
use Rattle.boc_cowns.proofs.totals.chain_ticks.Goals as goal

pub returns : goal.returns
returns c = sums_all (step_hands c.args.rows.now c.args.steps.now) (weight_at c.args.steps.now) c.loop-place.place (length c.args.steps.now)
    c.loop-place.totals.items (omega (arith, c.loop-place-test.false)) (omega (arith, c.loop-place.auto.place-end)) c.loop-place.invariant
