use Rattle.std.proofs.Common.{◌≡◌, length, drop, ◌++◌}
use Rattle.boc_eval.proofs.lists.refill.Given as goal

abbrev pub invariant-loop-item : goal.invariant-loop-item
invariant-loop-item g l = record {
  so_far : l.list.items ++ drop l.item-index l.items ≡ l.items;
  len : length l.list.items ≡ l.item-index;
}
