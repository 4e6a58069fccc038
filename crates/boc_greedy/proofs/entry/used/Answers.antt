use Rattle.std.proofs.Common.{refl}
use Rattle.boc_greedy.proofs.Used.{needs_more}
use Rattle.boc_greedy.proofs.entry.used.Goals as goal

pub loop-worker-preserved : goal.loop-worker-preserved
loop-worker-preserved c = rw c.max-used.ensures
    (needs_more c.args.workers.now c.loop-worker.worker-index c.loop-worker.used _ c.loop-worker.invariant refl)
