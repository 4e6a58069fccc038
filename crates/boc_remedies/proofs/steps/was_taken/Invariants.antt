use Rattle.std.proofs.Common.{◌≡◌, take, false}
use Rattle.std.specs.List.{list_any}
use Rattle.boc_remedies.specs.Remedies.{is_same}
use Rattle.boc_remedies.proofs.steps.was_taken.Given as goal

-- none of the steps so far has taken it
abbrev pub invariant-loop-step : goal.invariant-loop-step
invariant-loop-step l = list_any (λ s. is_same s.remedy l.remedy) (take l.step-index l.steps) ≡ false
