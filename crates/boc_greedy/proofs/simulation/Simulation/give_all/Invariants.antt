use Rattle.std.proofs.Common.{◌≡◌, ◌≤◌}
use Rattle.boc_greedy.specs.Simulating.{steps_of_all}
use Rattle.boc_greedy.specs.Stepping.{IsGiving}
use Rattle.boc_greedy.proofs.simulation.Simulation.give_all.Given as goal

abbrev pub invariant-loop-self : goal.invariant-loop-self
invariant-loop-self l = record {
  workers : l.self.p ≡ l.fn.self.p;
  giving : IsGiving l.rows l.self;
  no_more : steps_of_all l.self.frontier.states.items ≤ steps_of_all l.fn.self.frontier.states.items;
}

abbrev pub decreases-loop-self : goal.decreases-loop-self
decreases-loop-self l = steps_of_all l.self.frontier.states.items
