use Rattle.std.proofs.Common.{◌∙◌, arith, sym}
use Rattle.boc_plans.specs.Seen.{seen}
use Rattle.boc_run_commands.specs.Answers.{IsReport}
use Rattle.boc_plan_commands.specs.WhatIfAnswers.{IsWhatIfReport}
use Rattle.boc_run_commands.proofs.Asked.{leaves_as}
use Rattle.boc_plan_commands.proofs.ByRows.{changed_too, named_none, refused_from, refused_none, refused_too, reported}
use Rattle.boc_run_commands.proofs.RunNames.{numbers_counted}
use Rattle.boc_plan_commands.proofs.whatif.numbered_report.Goals as goal

pub changed-requires-clause-families : goal.changed-requires-clause-families
changed-requires-clause-families g c =
    let counted = numbers_counted 0 c.args.cowns c.in_ok-names.names c.in_ok-names.ensures in
    counted.0 ∙ sym counted.1

pub changed-requires-clause-few_families : goal.changed-requires-clause-few_families
changed-requires-clause-few_families g c =
    let counted = numbers_counted 0 c.args.cowns c.in_ok-names.names c.in_ok-names.ensures in
    omega (arith, counted.1, c.requires.few)

pub changed-requires-clause-few_defs : goal.changed-requires-clause-few_defs
changed-requires-clause-few_defs g c =
    let counted = numbers_counted 0 c.args.cowns c.in_ok-names.names c.in_ok-names.ensures in
    omega (arith, counted.2)

pub changed-requires-clause-defs : goal.changed-requires-clause-defs
changed-requires-clause-defs g c = λ some.
    let asked = c.args.asked.now in
    absurd (some (named_none asked.short asked.changes.now c.requires.nameless).1)

pub returns-clause-written : goal.returns-clause-written
returns-clause-written g c = λ names are.
    let asked = c.args.asked.now in
    let of_rows = named_none asked.short asked.changes.now c.requires.nameless in
    let after = c.in_ok-after.after in
    leaves_as (IsReport (seen after.sharing after.rows) asked.plans)
    (IsWhatIfReport names asked.changes.now asked.sharing asked.plans asked.short c.args.rows) c.report_after.result _ _
    (λ made is. reported names asked.changes.now asked.sharing after.sharing asked.plans asked.short c.args.rows after.rows made of_rows.0
    c.in_ok-after.ensures.sharing
    (changed_too 0 _ c.args.cowns c.in_ok-names.names names c.in_ok-names.ensures are asked.changes.now c.args.rows after.rows of_rows.1 of_rows.2
    c.in_ok-after.ensures.rows) is)
    c.report_after.ensures.written

pub returns-clause-refused : goal.returns-clause-refused
returns-clause-refused g c = λ names are. refused_none names _ _ c.report_after.result c.report_after.ensures.refused

pub returns-in_err-after-clause-refused : goal.returns-in_err-after-clause-refused
returns-in_err-after-clause-refused g c = λ names are.
    let asked = c.args.asked.now in
    let of_rows = named_none asked.short asked.changes.now c.requires.nameless in
    refused_from names asked.changes.now c.args.rows _ c.in_err-after.field-0.0 c.from_residual-in_err-after.ensures.1
    (refused_too 0 _ c.args.cowns c.in_ok-names.names names c.in_ok-names.ensures are asked.changes.now c.args.rows c.in_err-after.field-0.0
    of_rows.1 of_rows.2 c.in_err-after.ensures.rows)
