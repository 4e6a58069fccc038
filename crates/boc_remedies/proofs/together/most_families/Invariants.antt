use Rattle.std.proofs.Common.{◌≡◌, take}
use Rattle.boc_remedies.specs.Together.{most_families}
use Rattle.boc_remedies.proofs.together.most_families.Given as goal

-- the largest of the sets so far
abbrev pub invariant-loop-own : goal.invariant-loop-own
invariant-loop-own l = l.most ≡ most_families (take l.own-index l.looked)
