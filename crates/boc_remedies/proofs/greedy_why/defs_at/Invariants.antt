use Rattle.std.proofs.Common.{◌≡◌, take}
use Rattle.boc_remedies.specs.GreedyWhys.{defs_at}
use Rattle.boc_remedies.proofs.greedy_why.defs_at.Given as goal

-- the defs of the steps so far
abbrev pub invariant-loop-step : goal.invariant-loop-step
invariant-loop-step l = l.keys.items ≡ defs_at l.defs (take l.step-index l.steps)
