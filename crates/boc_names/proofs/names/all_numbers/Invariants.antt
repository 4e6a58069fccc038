use Rattle.std.proofs.Common.{◌≡◌}
use Rattle.boc_names.specs.Names.{numbers_from}
use Rattle.boc_names.proofs.names.all_numbers.Given as goal

abbrev pub invariant-loop-number : goal.invariant-loop-number
invariant-loop-number l = l.numbers.items ≡ numbers_from 0 l.number
