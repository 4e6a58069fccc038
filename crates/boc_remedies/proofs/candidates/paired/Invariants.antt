use Rattle.std.proofs.Common.{◌≡◌, take}
use Rattle.boc_remedies.specs.Told.{paired}
use Rattle.boc_remedies.proofs.candidates.paired.Given as goal

-- the remedies so far with what they leave
abbrev pub invariant-loop-place : goal.invariant-loop-place
invariant-loop-place l = l.all.items ≡ paired (take l.place l.remedies) l.left
