use Rattle.std.proofs.Common.{◌≡◌, ◌*◌, ◌^◌, ◌≤◌, take}
use Rattle.boc_compare.specs.Totalled.{waited_by}
use Rattle.boc_compare.proofs.families.waited_by.Given as goal

-- the cowns so far
abbrev pub invariant-loop-hot : goal.invariant-loop-hot
invariant-loop-hot l = record {
  is : l.waited ≡ waited_by l.families l.family (take l.hot-index l.cowns);
  low : l.waited ≤ l.hot-index * (2 ^ 56);
}
