use Rattle.std.proofs.Common.{◌≢◌, ◌∙◌, [], List, String, ap, length, subst, sym}
use Rattle.std.specs.Global.{Global}
use Rattle.boc_plan_commands.proofs.WhatIfParts.{all_changed, left_length}
use Rattle.boc_plan_commands.proofs.whatif.changed.Goals as goal

pub spawned_early-requires : goal.spawned_early-requires
spawned_early-requires c = λ some.
    c.requires.defs (subst (λ (defs : List (String Global)). defs ≢ []) c.deref-3.ensures.value some)
    ∙ sym (ap length c.in_ok-left.ensures ∙ left_length c.deref-2.result.now c.args.rows)

pub returns-clause-rows : goal.returns-clause-rows
returns-clause-rows c =
    all_changed (λ after. after.rows) c.args.names.now c.args.asked.now.changes.now c.args.rows c.in_ok-spawned.spawned c.in_ok-question.question.rows
    c.deref-2.result.now c.deref.result.now c.deref-3.result.now c.deref-4.result.now c.deref.ensures.value c.deref-3.ensures.value
    c.deref-4.ensures.value (c.deref-2.ensures.value ∙ c.in_ok-cowns.ensures.0) c.in_ok-cowns.ensures.1 (rw c.in_ok-left.ensures at c.in_ok-spawned.ensures)
    c.in_ok-question.ensures.rows c.edited.result c.edited.ensures.rows
