use Rattle.std.proofs.Common.{◌≡◌, ◌≢◌, ℕ, ◌<◌}
use Rattle.std.specs.Prelude.{Some, slice_get}
use Rattle.boc_dispatch.specs.declared.worker.Worker.{Worker}
use Rattle.boc_dispatch.specs.Working.{row_in}
use Rattle.boc_dispatch.specs.Driving.{row_for}
use Rattle.boc_dispatch.proofs.interleaving.server_of.Given as goal

-- none of the workers below this one serves it
abbrev pub invariant-loop-number : goal.invariant-loop-number
invariant-loop-number l = (k : ℕ) → k < l.number → (w : Worker) → slice_get l.crew k ≡ Some w → row_in w.hand ≢ row_for l.mover
