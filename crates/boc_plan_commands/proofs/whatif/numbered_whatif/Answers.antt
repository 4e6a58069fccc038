use Rattle.std.proofs.Common.{None}
use Rattle.boc_plan_commands.specs.WhatIfAnswers.{IsMeasuredReport, IsWhatIfReport}
use Rattle.boc_run_commands.proofs.Asked.{leaves_as}
use Rattle.boc_plan_commands.proofs.ByRows.{named_none, plain_refused, plain_report}
use Rattle.boc_plan_commands.proofs.NumberedRuns.{numbered_run}
use Rattle.boc_plan_commands.proofs.WhatIfNamed.{refused_asked, refused_before, written_named}
use Rattle.boc_plan_commands.proofs.whatif.numbered_whatif.Goals as goal

pub returns-in_err-rows-clause-refused : goal.returns-in_err-rows-clause-refused
returns-in_err-rows-clause-refused g c = λ bytes.
    refused_before None bytes _ _ c.in_err-rows.field-0.0 _ c.from_residual.ensures.1 c.in_err-rows.ensures.refused

pub returns-clause-written : goal.returns-clause-written
returns-clause-written g c = λ bytes.
    let asked = c.args.asked.now in
    let run =
    numbered_run c.args.alloc c.in_ok-rows.rows c.in_ok-rows.cowns _ _ c.as_slice-shape.ensures.shape c.in_ok-rows.ensures.few c.in_ok-rows.ensures.read in
    written_named None bytes asked.changes.now asked.sharing asked.plans asked.short (record { rows = c.in_ok-rows.rows; names = run.names; times = None })
    c.numbered_report.result _ _ _ _ (run.reads bytes)
    (leaves_as (IsWhatIfReport run.names asked.changes.now asked.sharing asked.plans asked.short c.in_ok-rows.rows)
    (IsMeasuredReport run.names asked.changes.now asked.sharing asked.plans asked.short c.in_ok-rows.rows) c.numbered_report.result _ _
    (λ text told. plain_report run.names asked.changes.now asked.sharing asked.plans asked.short c.in_ok-rows.rows text
    (named_none asked.short asked.changes.now c.requires.nameless).3 told) (c.numbered_report.ensures.written run.names run.are))

pub returns-clause-refused : goal.returns-clause-refused
returns-clause-refused g c = λ bytes.
    let run =
    numbered_run c.args.alloc c.in_ok-rows.rows c.in_ok-rows.cowns _ _ c.as_slice-shape.ensures.shape c.in_ok-rows.ensures.few c.in_ok-rows.ensures.read in
    refused_asked None bytes _ (record { rows = c.in_ok-rows.rows; names = run.names; times = None }) c.numbered_report.result _ _ (run.reads bytes)
    (plain_refused run.names c.args.asked.now.changes.now c.in_ok-rows.rows c.numbered_report.result
    (named_none c.args.asked.now.short c.args.asked.now.changes.now c.requires.nameless).3 (c.numbered_report.ensures.refused run.names run.are))
