use Rattle.std.proofs.Common.{◌≡◌, ◌++◌, pos}
use Rattle.std.specs.Prelude.{replicate}
use Rattle.boc_uses.proofs.started.push_zeros.Given as goal

abbrev pub invariant-loop : goal.invariant-loop
invariant-loop l = l.slots.items ≡ l.fn.slots.items ++ replicate l.counter (pos 0)
