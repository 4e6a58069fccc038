use Rattle.std.proofs.Common.{◌≡◌, ◌++◌, drop, map}
use Rattle.boc_turns.specs.Turns.{use_at}
use Rattle.boc_row_uses.proofs.ordered.put_each.Given as goal

abbrev pub invariant-loop-cown : goal.invariant-loop-cown
invariant-loop-cown l = l.uses.items ++ map (use_at l.cowns l.own) (drop l.cown-index l.wanted) ≡ l.fn.uses.items ++ map (use_at l.cowns l.own) l.wanted
