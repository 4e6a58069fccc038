use Rattle.boc_greedy.proofs.Latest.{IsLatest}
use Rattle.boc_greedy.proofs.entry.latest_end.Given as goal

-- the latest end so far
abbrev pub invariant-loop-row : goal.invariant-loop-row
invariant-loop-row l = IsLatest l.rows l.starts l.row l.latest
