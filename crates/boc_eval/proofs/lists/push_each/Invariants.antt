use Rattle.std.proofs.Common.{◌≡◌, drop, ◌++◌}
use Rattle.boc_eval.proofs.lists.push_each.Given as goal

abbrev pub invariant-loop-item : goal.invariant-loop-item
invariant-loop-item g l = l.list.items ++ drop l.item-index l.items ≡ l.fn.list.items ++ l.items
