use Rattle.std.proofs.Common.{◌≡◌, ◌++◌, take}
use Rattle.boc_remedies.specs.LookedAt.{looked_at}
use Rattle.boc_remedies.proofs.looked_at.push_looked_at.Given as goal

-- the sets so far with what they leave
abbrev pub invariant-loop-place : goal.invariant-loop-place
invariant-loop-place l = l.looked.items ≡ l.fn.looked.items ++ looked_at (take l.place l.sets) l.left
