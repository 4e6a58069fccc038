use Rattle.std.proofs.Common.{◌≡◌, take}
use Rattle.boc_remedies.specs.GreedyWhys.{greedy_weights}
use Rattle.boc_remedies.proofs.greedy_why.greedy_weights.Given as goal

-- the weights of the steps so far
abbrev pub invariant-loop-step : goal.invariant-loop-step
invariant-loop-step l = l.weights.items ≡ greedy_weights (take l.step-index l.steps)
