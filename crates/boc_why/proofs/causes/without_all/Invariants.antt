use Rattle.std.proofs.Common.{◌≡◌, ◌≤◌, length, map, take}
use Rattle.std.specs.Prelude.{vec_capacity}
use Rattle.boc_why.specs.Causes.{freed_from}
use Rattle.boc_why.proofs.causes.without_all.Given as goal

-- the rows so far without the cowns that are marked
abbrev pub invariant-loop-row : goal.invariant-loop-row
invariant-loop-row l = record {
  left : l.left.items ≡ map (freed_from l.is_left_out.items) (take l.row-index l.row-items);
  whole : length l.left.items ≡ l.row-index;
  room : length l.row-items ≤ vec_capacity l.left;
}
