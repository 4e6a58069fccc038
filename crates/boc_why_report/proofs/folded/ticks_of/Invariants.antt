use Rattle.std.proofs.Common.{◌≡◌, take}
use Rattle.boc_plans.specs.Chains.{weight_of}
use Rattle.boc_why_report.proofs.folded.ticks_of.Given as goal

abbrev pub invariant-loop-step : goal.invariant-loop-step
invariant-loop-step l = l.ticks ≡ weight_of (take l.step-index l.steps)
