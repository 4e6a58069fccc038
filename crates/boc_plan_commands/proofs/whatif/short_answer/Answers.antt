use Rattle.std.proofs.Common.{inl, length, refl, sym, ap, ◌∙◌}
use Rattle.boc_run_commands.proofs.Passed.{passed_on}
use Rattle.boc_plan_commands.proofs.WhatIfParts.{outcome_as, supposed_length, told_shortly}
use Rattle.boc_plan_commands.proofs.whatif.short_answer.Goals as goal

pub outcome_of-requires-2-clause-defs : goal.outcome_of-requires-2-clause-defs
outcome_of-requires-2-clause-defs c =
    ap length c.deref-2.ensures.value ∙ c.requires.defs
    ∙ sym (supposed_length c.args.names.now c.args.asked.now.changes.now c.args.rows c.in_ok-after.after.rows
    c.in_ok-after.ensures.rows)

pub returns-in_err-now : goal.returns-in_err-now
returns-in_err-now c = passed_on _ _ _ _ c.from_residual-in_err-now.ensures.1 (inl tt)

pub returns-in_err-short_text : goal.returns-in_err-short_text
returns-in_err-short_text c = passed_on _ _ _ _ c.from_residual-in_err-short_text.ensures.1 (inl tt)

pub returns : goal.returns
returns c =
    let names = c.args.names.now in
    let asked = c.args.asked.now in
    told_shortly names asked.changes.now asked.sharing asked.plans.workers c.args.rows c.in_ok-after.after.rows c.in_ok-was.was' c.in_ok-now.now
    c.in_ok-short_text.field-0.items c.in_ok-after.ensures.rows
    (outcome_as c.args.rows c.in_ok-before.before.rows asked.sharing c.in_ok-before.before.sharing names.defs.items c.deref.result.now asked.plans.workers
    c.in_ok-was.was' c.in_ok-was.ensures c.in_ok-before.ensures.rows c.in_ok-before.ensures.sharing c.deref.ensures.value)
    (outcome_as c.in_ok-after.after.rows c.in_ok-after.after.rows asked.sharing c.in_ok-after.after.sharing names.defs.items c.deref-2.result.now
    asked.plans.workers c.in_ok-now.now c.in_ok-now.ensures refl c.in_ok-after.ensures.sharing c.deref-2.ensures.value)
    c.in_ok-short_text.ensures
