use Rattle.boc_used_greedy.proofs.Using.{AreUsersTo}
use Rattle.boc_used_greedy.proofs.users.note_row.Given as goal

-- the first cowns of the row are noted
abbrev pub invariant-loop-place : goal.invariant-loop-place
invariant-loop-place l = AreUsersTo l.rows l.row l.place l.first l.next
