use Rattle.std.proofs.Common.{◌≡◌, drop, max}
use Rattle.boc_compare.specs.Totalled.{most_held}
use Rattle.boc_compare.proofs.families.most_held.Given as goal

-- the cowns behind the first are still to come
abbrev pub invariant-loop-hot : goal.invariant-loop-hot
invariant-loop-hot l = max l.most (most_held l.families l.family (drop l.hot-index l.cowns)) ≡ most_held l.families l.family l.cowns
