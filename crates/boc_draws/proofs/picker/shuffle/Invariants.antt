use Rattle.std.proofs.Common.{◌≡◌, length}
use Rattle.boc_draws.specs.Picks.{shuffled}
use Rattle.boc_draws.proofs.picker.shuffle.Given as goal

-- the order of the workers below this one
abbrev pub invariant-loop-worker : goal.invariant-loop-worker
invariant-loop-worker l = ((l.order.items, l.generator) ≡ shuffled l.worker l.initial.generator) × (length l.order.items ≡ l.worker)
