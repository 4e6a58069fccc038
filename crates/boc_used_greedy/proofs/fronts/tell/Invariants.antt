use Rattle.std.proofs.Common.{◌-◌, length}
use Rattle.boc_used_greedy.specs.Fronts.{AreRowsOf, Has}
use Rattle.boc_used_greedy.proofs.Passing.{IsTelling}
use Rattle.boc_used_greedy.proofs.Noting.{Lists}
use Rattle.boc_used_greedy.proofs.fronts.tell.Given as goal

-- the rows before this one are told
abbrev pub invariant-loop-next : goal.invariant-loop-next
invariant-loop-next l = record {
  telling : IsTelling l.rows l.holds.all.items l.cown l.front.at l.next;
  lists : Lists l.rows l.cown l.front.at l.next l.list.items;
  has : Has l.list.items l.fn.list.items;
  are_rows : AreRowsOf l.rows l.list.items;
}

abbrev pub decreases-loop-next : goal.decreases-loop-next
decreases-loop-next l = length l.rows - l.next
