use Rattle.std.proofs.Common.{ℕ, ◌-◌, ◌≤◌, length}
use Rattle.boc_used_greedy.specs.Fronts.{AreRowsOf, Has}
use Rattle.boc_used_greedy.proofs.Noting.{AreNoted}
use Rattle.boc_used_greedy.proofs.plan.note_children.Given as goal

-- the children before this one are noted
abbrev pub invariant-loop-child : goal.invariant-loop-child
invariant-loop-child l = record {
  noted : AreNoted l.rows l.row l.child l.list.items;
  has : Has l.list.items l.fn.list.items;
  are_rows : AreRowsOf l.rows l.list.items;
}

abbrev pub decreases-loop-child : goal.decreases-loop-child
decreases-loop-child l = length l.rows - l.child
