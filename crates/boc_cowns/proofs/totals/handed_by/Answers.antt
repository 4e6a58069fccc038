use Rattle.std.proofs.Common.{◌+◌, get_or, sym, ◌∙◌, arith}
use Rattle.boc_cowns.proofs.Handed.{among_handed}
use Rattle.boc_cowns.proofs.Steps.{else_hands, no_step, order_hands, step_there}
use Rattle.boc_cowns.proofs.totals.handed_by.Goals as goal

pub handed-requires-clause-first : goal.handed-requires-clause-first
handed-requires-clause-first c = step_there c.args.rows.now c.args.steps.now c.requires.chain c.args.place c.requires.there

pub handed-requires-clause-second : goal.handed-requires-clause-second
handed-requires-clause-second c =
    step_there c.args.rows.now c.args.steps.now c.requires.chain (c.args.place + 1) (omega (arith, c.if-place-steps.false, c.requires.there))

pub returns-in-Order-clause-each : goal.returns-in-Order-clause-each
returns-in-Order-clause-each c cown =
    among_handed c.args.rows.now cown (get_or c.args.steps.now c.args.place no_step).row (get_or c.args.steps.now (c.args.place + 1) no_step).row
    c.handed.result.items c.handed.ensures
    ∙ sym (order_hands c.args.rows.now c.args.steps.now cown c.args.place c.requires.there c.in-Order.is
    (omega (arith, c.if-place-steps.false, c.requires.there)))

pub returns-in-Spawn : goal.returns-in-Spawn
returns-in-Spawn c = rw c.new-in-Spawn.ensures (record {
  rise = λ k h. absurd (omega (arith, h));
  each = λ cown. sym (else_hands c.args.rows.now c.args.steps.now cown c.args.place c.requires.there c.in-Spawn.is);
})
