use Rattle.boc_greedy.proofs.Finishing.{done}
use Rattle.boc_greedy.proofs.simulation.Simulation.finish.Goals as goal

pub returns : goal.returns
returns c = done _ _ c.loop-tick.self c.requires.shape c.loop-tick.invariant.settled c.loop-tick.invariant.asked c.requires.some
    c.in_default.ensures.none
