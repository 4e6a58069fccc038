use Rattle.std.proofs.Common.{◌≡◌, ◌++◌, drop}
use Rattle.boc_program.specs.Meaning.{values_held}
use Rattle.boc_uses.proofs.started.push_values.Given as goal

abbrev pub invariant-loop-input : goal.invariant-loop-input
invariant-loop-input l = l.slots.items ++ values_held (drop l.input-index l.inputs) ≡ l.fn.slots.items ++ values_held l.inputs
