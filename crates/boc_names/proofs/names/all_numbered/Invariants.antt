use Rattle.std.proofs.Common.{◌≡◌}
use Rattle.boc_names.specs.Names.{numbered_from, texts_of}
use Rattle.boc_names.proofs.names.all_numbered.Given as goal

abbrev pub invariant-loop-number : goal.invariant-loop-number
invariant-loop-number l = texts_of l.names.items ≡ numbered_from l.word 0 l.number
