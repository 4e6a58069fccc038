use Rattle.std.proofs.Common.{◌≤◌, length}
use Rattle.boc_used_greedy.specs.Users.{AreUsersFrom, AreChildrenFrom}
use Rattle.boc_used_greedy.proofs.users.users_of.Given as goal

-- the rows from this one on are noted
abbrev pub invariant-loop-row : goal.invariant-loop-row
invariant-loop-row l = record {
  cowns : AreUsersFrom l.rows l.row l.first.items l.next.items;
  children : AreChildrenFrom l.rows l.row l.first_child.items l.next_child.items;
  some : 1 ≤ l.row;
  few : l.row ≤ length l.rows;
}

abbrev pub decreases-loop-row : goal.decreases-loop-row
decreases-loop-row l = l.row
