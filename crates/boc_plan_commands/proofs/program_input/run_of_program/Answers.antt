use Rattle.boc_plan_commands.proofs.ProgramRuns.{given_as, named_as, scheduled_as, unnamed_as}
use Rattle.boc_plan_commands.proofs.program_input.run_of_program.Goals as goal

pub returns-in-Nothing : goal.returns-in-Nothing
returns-in-Nothing g c =
    scheduled_as g.G.Gate.always_on c.args.setting.schedule c.args.setting.supplied c.args.setting.bytes.items _ c.args.text.items c.program_run.result _
    c.in-Nothing.is c.deref.ensures.value c.program_run.ensures

pub returns-in-Record : goal.returns-in-Record
returns-in-Record g c =
    given_as g.G.Gate.always_on c.args.setting.schedule c.args.setting.supplied c.args.setting.bytes.items _ c.args.text.items c.given_run.result _
    c.in-Record.is c.deref-in-Record.ensures.value c.given_run.ensures

pub returns : goal.returns
returns g c =
    named_as g.G.Gate.always_on c.args.setting.schedule c.args.setting.supplied c.args.setting.bytes.items c.deref-in-Names-2.result.now _
    c.args.text.items c.in_ok-own-in-Names.own c.renamed.result c.in-Names.is c.deref-in-Names-2.ensures.value c.deref-in-Names.ensures.value
    c.in_ok-own-in-Names.ensures.0 c.in_ok-own-in-Names.ensures.1 c.renamed.ensures.renamed

pub returns-in_err-own-in-Names : goal.returns-in_err-own-in-Names
returns-in_err-own-in-Names g c =
    unnamed_as g.G.Gate.always_on c.args.setting.schedule c.args.setting.supplied c.args.setting.bytes.items _ c.args.text.items _
    c.in_err-own-in-Names.field-0.0 c.in-Names.is c.deref-in-Names.ensures.value c.from_residual.ensures.1 c.in_err-own-in-Names.ensures
