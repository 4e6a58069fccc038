use Rattle.boc_draws.proofs.OneWay.{way_counted}
use Rattle.boc_draws.proofs.at_depth.way_of.Goals as goal

pub returns : goal.returns
returns g c =
    way_counted c.args.program.now c.args.workers c.args.depth c.in-Some.depth c.in_ok-drawn.drawn c.in-Some.is c.in_ok-drawn.ensures.draw
