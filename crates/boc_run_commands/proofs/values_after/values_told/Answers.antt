use Rattle.boc_run_commands.specs.Beside.{IsOfValuesAfter}
use Rattle.boc_run_commands.proofs.BesideFiles.{answered_after, refused_beside}
use Rattle.boc_run_commands.proofs.Passed.{passed_on}
use Rattle.boc_run_commands.proofs.values_after.values_told.Goals as goal

pub returns-in_err-recorded : goal.returns-in_err-recorded
returns-in_err-recorded g c =
    passed_on _ (IsOfValuesAfter c.args.record_text.items c.args.text.now) _ _ c.from_residual-in_err-recorded.ensures.1
    (refused_beside c.args.record_text.items c.args.text.now c.in_err-recorded.field-0.0 (c.in_ok-program.program, c.in_ok-program.ensures.0)
    c.in_err-recorded.ensures)

pub returns : goal.returns
returns g c =
    answered_after c.args.record_text.items c.args.text.now c.in_ok-program.program c.in_ok-program.defs.items c.args.quiet c.in_ok-recorded.recorded
    c.values_of_run.result c.in_ok-program.ensures.0 c.in_ok-program.ensures.1 c.in_ok-recorded.ensures c.values_of_run.ensures
