use Rattle.boc_run_commands.proofs.GivenRuns.{own_as, renamed_as}
use Rattle.boc_run_commands.proofs.named_run.named_run.Goals as goal

pub returns-in_ok-own-in-Names : goal.returns-in_ok-own-in-Names
returns-in_ok-own-in-Names g c =
    renamed_as g.G.Gate.always_on c.args.origin.schedule c.args.text.items c.args.origin.bytes.items c.deref-in-Names.result.now
    c.in_ok-own-in-Names.own c.renamed.result
    c.args.origin.file.now c.in-Some.file c.in-Names.field-0 c.in-Some.is c.in-Names.is c.in_ok-own-in-Names.ensures.0 c.in_ok-own-in-Names.ensures.1 c.in_ok-own-in-Names.ensures.2
    c.deref-in-Names.ensures.value c.renamed.ensures.renamed

pub returns-in_default : goal.returns-in_default
returns-in_default g c =
    own_as g.G.Gate.always_on c.args.origin.schedule c.args.text.items c.args.origin.bytes.items c.own_run.result c.args.origin.file.now c.in_default.is
    c.own_run.ensures
