use Rattle.boc_plan_commands.proofs.WhatIfParts.{keeps_source, leaves_unfit}
use Rattle.boc_plan_commands.proofs.whatif.whatif_report.Goals as goal

pub returns-in_err-put_out-clause-source : goal.returns-in_err-put_out-clause-source
returns-in_err-put_out-clause-source g c = keeps_source _ _ c.from_residual-in_err-put_out.ensures.1

pub returns-in_err-text-clause-written : goal.returns-in_err-text-clause-written
returns-in_err-text-clause-written g c =
    leaves_unfit _ c.args.run.names c.args.asked.now.changes.now c.args.run.rows _ c.in_err-text.field-0.0 _ c.from_residual.ensures.1 c.in_err-text.ensures
