use Rattle.std.proofs.Common.{◌≡◌, take}
use Rattle.boc_remedies.specs.Steps.{others}
use Rattle.boc_remedies.proofs.steps.others.Given as goal

-- those of the remedies so far
abbrev pub invariant-loop-remedy : goal.invariant-loop-remedy
invariant-loop-remedy l = l.left.items ≡ others l.steps (take l.remedy-index l.remedies)
