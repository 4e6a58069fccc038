use Rattle.boc_words.specs.Words.{Told}
use Rattle.boc_words.proofs.Told.{app_up_to}
use Rattle.boc_words.proofs.commands.Entry.command.Given as goal

abbrev pub invariant-loop-argument : goal.invariant-loop-argument
invariant-loop-argument l = Told l.command (app_up_to l.self.name.now l.self.takes.now l.argument-index)
