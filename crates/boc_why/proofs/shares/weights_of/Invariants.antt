use Rattle.std.proofs.Common.{◌≡◌, take}
use Rattle.boc_why.specs.Shares.{weights_of}
use Rattle.boc_why.proofs.shares.weights_of.Given as goal

-- the weights of the steps so far
abbrev pub invariant-loop-step : goal.invariant-loop-step
invariant-loop-step l = l.weights.items ≡ weights_of (take l.step-index l.steps)
