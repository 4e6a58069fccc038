use Rattle.std.proofs.Common.{ℕ, subst}
use Rattle.boc_run_commands.specs.Commands.{CountsSource}
use Rattle.boc_plan_commands.proofs.WhatIfNamed.{refused_asked, refused_before, written_named}
use Rattle.boc_plan_commands.proofs.whatif.record_whatif.Goals as goal

pub returns-in_err-run-clause-refused : goal.returns-in_err-run-clause-refused
returns-in_err-run-clause-refused g c =
    refused_before c.args.file.now c.args.bytes.now _ _ c.in_err-run.field-0.0 _ c.from_residual.ensures.1 c.in_err-run.ensures.refused

pub returns-clause-written : goal.returns-clause-written
returns-clause-written g c =
    written_named c.args.file.now c.args.bytes.now _ _ _ _ c.in_ok-run.run' c.measured_report.result _ _ _ _ c.in_ok-run.ensures.read
    c.measured_report.ensures.written

pub returns-clause-refused : goal.returns-clause-refused
returns-clause-refused g c =
    refused_asked c.args.file.now c.args.bytes.now _ c.in_ok-run.run' c.measured_report.result _ _ c.in_ok-run.ensures.read c.measured_report.ensures.refused

pub returns-clause-source : goal.returns-clause-source
returns-clause-source g c =
    subst (λ (n : ℕ). CountsSource c.measured_report.result n (g.S.Source.failures c.named_record.new.source)) c.in_ok-run.ensures.source
    (c.measured_report.ensures.source _)
