use Rattle.std.proofs.Common.{◌≡◌, ◌≤◌}
use Rattle.boc_greedy.specs.Simulating.{steps_of_all}
use Rattle.boc_greedy.specs.Stepping.{IsStepping}
use Rattle.boc_greedy.proofs.simulation.Simulation.change_all.Given as goal

abbrev pub invariant-loop-tick : goal.invariant-loop-tick
invariant-loop-tick l = record {
  workers : l.self.p ≡ l.fn.self.p;
  stepping : IsStepping l.rows l.self;
  tick_stays : l.self.tick ≡ l.fn.self.tick;
  no_more : steps_of_all l.self.frontier.states.items ≤ steps_of_all l.fn.self.frontier.states.items;
}

abbrev pub decreases-loop-tick : goal.decreases-loop-tick
decreases-loop-tick l = steps_of_all l.self.frontier.states.items
