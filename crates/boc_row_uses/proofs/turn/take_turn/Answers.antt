use Rattle.std.proofs.Common.{◌∙◌, ℕ, ℤ, List, length, ap, sym}
use Rattle.boc_runs.specs.Serial.{inputs_of}
use Rattle.boc_eval.specs.Instances.{behaviour_in}
use Rattle.boc_row_uses.proofs.Running.{left_alone, no_cowns, none_used, value_for_each}
use Rattle.boc_row_uses.proofs.turn.take_turn.Goals as goal

pub returns-then-is_empty-clause-values : goal.returns-then-is_empty-clause-values
returns-then-is_empty-clause-values c =
    left_alone c.args.program.now (behaviour_in c.args.instance.now) c.args.values.now
    (no_cowns c.args.instance.now.cowns.items c.is_empty.result c.is_empty.ensures c.if-is_empty.true)

pub returns-then-is_empty-clause-uses : goal.returns-then-is_empty-clause-uses
returns-then-is_empty-clause-uses c =
    none_used c.args.program.now (behaviour_in c.args.instance.now) (inputs_of c.args.instance.now.cowns.items c.args.values.now) c.args.uses.now.items
    (no_cowns c.args.instance.now.cowns.items c.is_empty.result c.is_empty.ensures c.if-is_empty.true)

pub write_outputs-requires-clause-both : goal.write_outputs-requires-clause-both
write_outputs-requires-clause-both c =
    let values : List ℤ = c.args.values.now in
    ap (length {A = ℕ}) c.deref-8.ensures.0
    ∙ value_for_each c.body-body.result c.deref-6.result.now values c.in_ok-outputs.outputs.items c.args.instance.now.cowns.items c.deref-7.result.now
    (c.deref-7.ensures.0 ∙ c.inputs_of-inputs.ensures ∙ ap (λ (cowns : List ℕ). inputs_of cowns values) c.deref.ensures.0) c.in_ok-outputs.ensures
    ∙ sym (ap (length {A = ℤ}) c.deref-9.ensures.0)
