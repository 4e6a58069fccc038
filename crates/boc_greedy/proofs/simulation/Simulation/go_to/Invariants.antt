use Rattle.std.proofs.Common.{◌≡◌}
use Rattle.boc_greedy.specs.Simulating.{steps_of_all}
use Rattle.boc_greedy.specs.Stepping.{IsSettled}
use Rattle.boc_greedy.proofs.simulation.Simulation.go_to.Given as goal

abbrev pub invariant-loop-next : goal.invariant-loop-next
invariant-loop-next l = record { settled : IsSettled l.rows l.self; asked : l.self.p ≡ l.fn.self.p }

abbrev pub decreases-loop-next : goal.decreases-loop-next
decreases-loop-next l = steps_of_all l.self.frontier.states.items
