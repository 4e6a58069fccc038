use Rattle.std.proofs.Common.{◌≡◌, ◌∙◌, ap, sym, length}
use Rattle.boc_program.proofs.Outputs.{output_for_each}
use Rattle.boc_runs.specs.Serial.{inputs_of}
use Rattle.boc_eval.specs.Frames.{UnderWay}
use Rattle.boc_lines.proofs.Replaying.{length-inputs}
use Rattle.boc_lines.proofs.along.run_at_once.Goals as goal

pub write_outputs-requires-clause-both : goal.write_outputs-requires-clause-both
write_outputs-requires-clause-both c =
    let outcome = c.into_outcome-outcome.result in
    let inputs_are : outcome.inputs ≡ inputs_of c.deref.result.now c.args.values.now =
    c.into_outcome-outcome.ensures.inputs
    ∙ ap (λ (u : UnderWay). u.inputs) c.in_ok-wished.ensures.frame
    ∙ ap (λ (u : UnderWay). u.inputs) c.in_ok-frame.ensures.frame
    ∙ c.deref-3.ensures.0
    ∙ c.inputs_of-inputs.ensures in
    ap length c.deref-4.ensures.0 ∙ sym (ap length c.deref.ensures.0) ∙ sym (length-inputs c.deref.result.now c.args.values.now) ∙ sym (ap length inputs_are)
    ∙ sym (output_for_each outcome.body outcome.args outcome.inputs) ∙ sym (ap length c.outputs.ensures.meaning.same_outputs)
    ∙ sym (ap length c.outputs.ensures.value)
