use Rattle.boc_words.proofs.Told.{told_every_command, told_next_command}
use Rattle.boc_words.proofs.commands.parser.Goals as goal

pub loop-kind-preserved : goal.loop-kind-preserved
loop-kind-preserved c =
    told_next_command c.loop-kind.parser c.in_ok-command.command c.in_ok-parser-2.parser _ c.loop-kind.kind-index _ c.loop-kind-test.true
    c.in_ok-parser-2.ensures c.in_ok-command.ensures c.loop-kind.invariant

-- What is listed computes to the commands of the definitions.
pub returns : goal.returns
returns c = told_every_command c.loop-kind.parser _ c.loop-kind.kind-index c.loop-kind-test.false c.loop-kind.invariant
