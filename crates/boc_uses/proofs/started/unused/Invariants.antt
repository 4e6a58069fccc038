use Rattle.std.proofs.Common.{◌≡◌, None}
use Rattle.std.specs.Prelude.{replicate}
use Rattle.boc_uses.proofs.started.unused.Given as goal

abbrev pub invariant-loop : goal.invariant-loop
invariant-loop l = l.uses.items ≡ replicate l.counter None
