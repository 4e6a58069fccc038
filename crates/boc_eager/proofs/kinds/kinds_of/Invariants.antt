use Rattle.std.proofs.Common.{◌≤◌, length}
use Rattle.std.specs.BTreeMap as tree
use Rattle.std.specs.Ordering.{nat_cmp}
use Rattle.std.specs.Prelude.{vec_capacity}
use Rattle.boc_eager.specs.Kinds.{kind_code}
use Rattle.boc_eager.proofs.KindPlaces.{HasFirsts}
use Rattle.boc_eager.proofs.kinds.kinds_of.Given as goal

-- the first rows with the codes so far
abbrev pub invariant-loop-row : goal.invariant-loop-row
invariant-loop-row l = record {
  room : length l.rows ≤ vec_capacity l.kinds;
  firsts : HasFirsts (kind_code l.rows) l.row (tree.get nat_cmp l.seen) l.kinds.items;
}
