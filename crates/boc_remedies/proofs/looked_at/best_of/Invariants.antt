use Rattle.std.proofs.Common.{◌≡◌, take}
use Rattle.boc_remedies.specs.LookedAt.{best_of}
use Rattle.boc_remedies.proofs.looked_at.best_of.Given as goal

-- the best of the sets so far
abbrev pub invariant-loop-own : goal.invariant-loop-own
invariant-loop-own l = l.best.items ≡ best_of (take l.own-index l.looked)
