use Rattle.boc_words.proofs.Told.{told_next}
use Rattle.boc_words.proofs.commands.Entry.command.Goals as goal

pub loop-argument-preserved : goal.loop-argument-preserved
loop-argument-preserved c =
    told_next c.loop-argument.command c.in_ok-command.command c.arg.result c.args.self.now.name.now c.args.self.now.takes.now
    c.loop-argument.argument-index _ c.loop-argument-test.true c.in_ok-command.ensures c.arg.ensures.local c.arg.ensures.rule
    c.loop-argument.invariant
