use Rattle.std.proofs.Common.{List, subst}
use Rattle.boc_names.specs.declared.names.Names.{Names}
use Rattle.boc_run_commands.specs.Commands.{Leaves}
use Rattle.boc_plan_commands.specs.WhatIfAnswers.{IsMeasuredReport, IsWhatIfReport, RefusesAsked}
use Rattle.boc_run_commands.proofs.Asked.{leaves_as}
use Rattle.boc_plan_commands.proofs.ByRows.{refused_measured}
use Rattle.boc_plan_commands.proofs.whatif.measured_report.Goals as goal

pub returns-clause-written : goal.returns-clause-written
returns-clause-written g c =
    let asked = c.args.asked.now in
    let measured = c.in_ok-measured.measured in
    leaves_as (IsWhatIfReport measured.names asked.changes.now asked.sharing asked.plans asked.short measured.rows)
    (IsMeasuredReport c.args.run.names asked.changes.now asked.sharing asked.plans asked.short c.args.run.rows) c.whatif_report.result _ _
    (λ text told. record {
      measured = measured.rows;
      measured_are = c.in_ok-measured.ensures.measured;
      told = subst (λ (names : Names). IsWhatIfReport names asked.changes.now asked.sharing asked.plans asked.short measured.rows text)
          c.in_ok-measured.ensures.names_are told;
    }) c.whatif_report.ensures.written

pub returns-clause-refused : goal.returns-clause-refused
returns-clause-refused g c =
    let asked = c.args.asked.now in
    let measured = c.in_ok-measured.measured in
    refused_measured c.args.run.names asked.changes.now c.args.run.rows measured.rows c.whatif_report.result c.in_ok-measured.ensures.measured
    (subst (λ (names : Names). RefusesAsked names asked.changes.now measured.rows c.whatif_report.result) c.in_ok-measured.ensures.names_are
    c.whatif_report.ensures.refused)
