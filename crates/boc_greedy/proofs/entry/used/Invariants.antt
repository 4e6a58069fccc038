use Rattle.boc_greedy.proofs.Used.{NeedsSoMany}
use Rattle.boc_greedy.proofs.entry.used.Given as goal

-- so many workers are needed for the numbers so far
abbrev pub invariant-loop-worker : goal.invariant-loop-worker
invariant-loop-worker l = NeedsSoMany l.workers l.worker-index l.used
