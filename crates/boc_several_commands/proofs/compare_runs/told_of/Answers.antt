use Rattle.std.proofs.Common.{refl}
use Rattle.std.proofs.lemmas.Result.{IfOk-weaker}
use Rattle.boc_several_commands.specs.declared.runs_text.RunsCompared.{RunsCompared}
use Rattle.boc_several_commands.proofs.DrawnSides.{compared}
use Rattle.boc_several_commands.proofs.compare_runs.told_of.Goals as goal

pub returns : goal.returns
returns c =
    let told : RunsCompared = record {
      asked = c.args.before.now.asked;
      plan_workers = c.number_of.result;
      before = c.in_ok-spreads_of.field-0;
      after = c.in_ok-spreads_of-2.field-0;
      less = c.counts_of-less.result.0;
      same = c.counts_of-less.result.1;
    } in
    IfOk-weaker c.runs_text.result _ _ (λ text is.
    compared c.args.asked.now c.args.before.now c.args.after.now c.as_slice-was.result.now c.as_slice-now.result.now told text.items c.as_slice-was.ensures.value
    c.as_slice-now.ensures.value refl c.number_of.ensures c.in_ok-spreads_of.ensures c.in_ok-spreads_of-2.ensures c.counts_of-less.ensures.less
    c.counts_of-less.ensures.same is) c.runs_text.ensures
