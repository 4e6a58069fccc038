use Rattle.std.proofs.Common.{◌≡◌, take, false}
use Rattle.std.specs.List.{list_any}
use Rattle.boc_remedies.specs.Steps.{outdoes_step}
use Rattle.boc_remedies.proofs.steps.is_outdone.Given as goal

-- none so far saves nearly as much
abbrev pub invariant-loop-other : goal.invariant-loop-other
invariant-loop-other l = list_any (outdoes_step l.now l.own) (take l.other-index l.all) ≡ false
