use Rattle.std.proofs.Common.{◌≡◌, take, false}
use Rattle.std.specs.List.{list_any}
use Rattle.boc_remedies.specs.Told.{outdoes}
use Rattle.boc_remedies.proofs.candidates.is_told.Given as goal

-- none so far saves nearly as much
abbrev pub invariant-loop-other : goal.invariant-loop-other
invariant-loop-other l = list_any (outdoes l.now l.own) (take l.other-index l.all) ≡ false
