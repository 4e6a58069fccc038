use Rattle.std.specs.Prelude.{option_map}
use Rattle.boc_plans.specs.Seen.{seen}
use Rattle.boc_run_commands.proofs.Asked.{is_report, unwritten}
use Rattle.boc_run_commands.proofs.report.report_after.Goals as goal

pub returns-clause-written : goal.returns-clause-written
returns-clause-written g c = (
  _,
  is_report (seen c.args.question.sharing c.args.question.rows) c.args.plans c.in_ok-profile.profile _ (option_map (λ r. r.now) c.as_ref.result)
      c.in_ok-profile.ensures c.in_ok-greedy.ensures.part c.as_ref.ensures.value,
  c.in_ok-write_report.ensures.written,
)

pub returns-in_err-write_report-clause-written : goal.returns-in_err-write_report-clause-written
returns-in_err-write_report-clause-written g c =
    unwritten _ _ c.in_err-write_report.field-0.0 _ _ _ c.from_residual-in_err-write_report.ensures.1
    (is_report (seen c.args.question.sharing c.args.question.rows) c.args.plans c.in_ok-profile.profile _ (option_map (λ r. r.now) c.as_ref.result)
    c.in_ok-profile.ensures c.in_ok-greedy.ensures.part c.as_ref.ensures.value) c.in_err-write_report.ensures.written
