use Rattle.std.proofs.Common.{ℕ, rules, subst}
use Rattle.boc_run_commands.specs.Commands.{CountsSource, RefusesRecord}
use Rattle.boc_run_commands.proofs.Asked.{leaves_read}
use Rattle.boc_run_commands.proofs.Noting.{noted_report}
use Rattle.boc_run_commands.proofs.Passed.{refuses_nothing}
use Rattle.boc_plan_commands.proofs.profile.record_profile.Goals as goal

pub returns-clause-written : goal.returns-clause-written
returns-clause-written g c =
    let asked = c.in_ok-rows.ensures.rows_or_fault in
    leaves_read _ _ c.report_on.result _ _ _ _ asked.1 (λ text report. noted_report c.args.asked.sharing c.args.asked.plans c.args.asked.quiet c.in_ok-noted.noted.items
    asked.1.text asked.0 c.in_ok-rows.rows text asked.1.text_of asked.2 report (search rules)) c.report_on.ensures.written

pub returns-clause-refused : goal.returns-clause-refused
returns-clause-refused g c =
    refuses_nothing (λ r. RefusesRecord r (g.S.Source.remaining c.args.source.now)) tt (λ w. tt) c.report_on.result c.report_on.ensures.refused

pub returns-clause-source : goal.returns-clause-source
returns-clause-source g c =
    subst (λ (n : ℕ). CountsSource c.report_on.result n (g.S.Source.failures c.read_rows.new.source)) c.in_ok-rows.ensures.failures
    (c.report_on.ensures.source _)
