use Rattle.std.proofs.Common.{ℕ, ◌<◌}
use Rattle.std.specs.Prelude.{slice_index}
use Rattle.boc_busy.proofs.timed.are_below.Given as goal

-- the workers so far are below p
abbrev pub invariant-loop-worker : goal.invariant-loop-worker
invariant-loop-worker l = (k : ℕ) → k < l.worker-index → slice_index l.workers k < l.p
