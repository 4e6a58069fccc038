use Rattle.std.proofs.lemmas.Result.{IfOk-weaker}
use Rattle.boc_plan_commands.proofs.why.why_told_of.Goals as goal

pub returns : goal.returns
returns g c =
    IfOk-weaker c.why_text.result _ _ (λ text is. record {
      told = _;
      is = record { is_advised = c.in_ok-found.ensures.advised; is_order = c.in_ok-order.ensures; timed_is = c.end_of_times.ensures };
      text_is = is;
    }) c.why_text.ensures
