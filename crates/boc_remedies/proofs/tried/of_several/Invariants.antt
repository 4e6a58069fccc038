use Rattle.std.proofs.Common.{◌≡◌, take}
use Rattle.boc_remedies.specs.Tried.{of_several}
use Rattle.boc_remedies.proofs.tried.of_several.Given as goal

-- those of the sets so far
abbrev pub invariant-loop-set : goal.invariant-loop-set
invariant-loop-set l = l.several.items ≡ of_several (take l.set-index l.sets)
