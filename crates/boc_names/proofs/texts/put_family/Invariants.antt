use Rattle.std.proofs.Common.{◌≡◌, ◌++◌, replicate}
use Rattle.boc_names.proofs.texts.put_family.Given as goal

abbrev pub invariant-loop : goal.invariant-loop
invariant-loop l = l.families.items ≡ l.initial.families.items ++ replicate l.counter l.number
