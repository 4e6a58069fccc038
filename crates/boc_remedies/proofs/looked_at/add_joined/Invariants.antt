use Rattle.std.proofs.Common.{◌≡◌, take}
use Rattle.boc_remedies.specs.LookedAt.{new_from}
use Rattle.boc_remedies.proofs.looked_at.add_joined.Given as goal

-- the sets with those of the others so far
abbrev pub invariant-loop-own : goal.invariant-loop-own
invariant-loop-own l = l.sets.items ≡ new_from l.looked l.base l.fn.sets.items (take l.own-index l.more)
