use Rattle.boc_used_greedy.proofs.Ending.{IsEndTo, IsEndWith}
use Rattle.boc_used_greedy.proofs.plan.Plan.end.Given as goal

-- the last end of the rows so far
abbrev pub invariant-loop-row : goal.invariant-loop-row
invariant-loop-row l = IsEndTo l.rows l.self.starts.items l.row l.end

-- the last end of all rows and of the turns at the cowns so far
abbrev pub invariant-loop-front : goal.invariant-loop-front
invariant-loop-front l = IsEndWith l.rows l.holds.all.items l.self.starts.items l.front-index l.end
