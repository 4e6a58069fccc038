use Rattle.std.proofs.Common.{◌≡◌, ◌+◌, ◌*◌, ◌^◌, ◌≤◌, drop}
use Rattle.boc_compare.specs.Totalled.{handed_by}
use Rattle.boc_compare.proofs.families.handed_by.Given as goal

-- the links behind the first are still to come
abbrev pub invariant-loop-place : goal.invariant-loop-place
invariant-loop-place l = record {
  left : l.ticks + handed_by l.families l.family (drop l.place l.links) (drop l.place l.weights) ≡ handed_by l.families l.family l.links l.weights;
  low : l.ticks ≤ l.place * (2 ^ 32);
}
