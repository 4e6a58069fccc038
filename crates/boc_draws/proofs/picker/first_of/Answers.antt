use Rattle.boc_draws.proofs.Picking.{past_end}
use Rattle.boc_draws.proofs.picker.first_of.Goals as goal

pub unreachable-requires : goal.unreachable-requires
unreachable-requires c =
    past_end c.args.order.now c.args.movers.now c.loop-place.place c.loop-place-test.false c.loop-place.invariant c.requires
