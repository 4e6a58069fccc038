use Rattle.boc_used_greedy.proofs.Allowed.{IsReadyTo}
use Rattle.boc_used_greedy.proofs.ready.ready_at.Given as goal

-- the row is ready then, as far as its cowns have been looked at
abbrev pub invariant-loop-own : goal.invariant-loop-own
invariant-loop-own l = IsReadyTo l.rows l.holds.all.items l.starts l.row l.own-index l.tick
