use Rattle.boc_words.specs.Words.{Told}
use Rattle.boc_words.proofs.Told.{program_up_to}
use Rattle.boc_words.proofs.commands.parser.Given as goal

abbrev pub invariant-loop-kind : goal.invariant-loop-kind
invariant-loop-kind l = Told l.parser (program_up_to l.kind-items l.kind-index)
