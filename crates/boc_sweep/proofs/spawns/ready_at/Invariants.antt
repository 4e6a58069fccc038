use Rattle.boc_sweep.proofs.Spawning.{ReadyTo}
use Rattle.boc_sweep.proofs.spawns.ready_at.Given as goal

-- the ends of the waits so far have been seen
abbrev pub invariant-loop-before : goal.invariant-loop-before
invariant-loop-before l = ReadyTo l.spawned l.waits l.ends l.before-index l.tick
