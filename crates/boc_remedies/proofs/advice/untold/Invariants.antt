use Rattle.std.proofs.Common.{◌≡◌, take}
use Rattle.boc_remedies.specs.Advice.{untold}
use Rattle.boc_remedies.proofs.advice.untold.Given as goal

-- those of the sets so far
abbrev pub invariant-loop-set : goal.invariant-loop-set
invariant-loop-set l = l.left.items ≡ untold l.candidates (take l.set-index l.sets)
