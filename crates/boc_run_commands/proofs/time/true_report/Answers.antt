use Rattle.boc_plans.specs.Seen.{seen}
use Rattle.boc_plans.proofs.Seeing.{rows_seen}
use Rattle.boc_run_commands.proofs.Asked.{leaves_as}
use Rattle.boc_run_commands.proofs.Promised.{true_report}
use Rattle.boc_run_commands.proofs.time.true_report.Goals as goal

pub returns-clause-written : goal.returns-clause-written
returns-clause-written g c =
    leaves_as _ _ c.report_on.result _ _ (λ text is. true_report (seen c.args.sharing c.args.rows) c.args.plans text
    (rows_seen c.args.sharing c.args.rows c.as_slice-shape.ensures.shape) is) c.report_on.ensures.written
