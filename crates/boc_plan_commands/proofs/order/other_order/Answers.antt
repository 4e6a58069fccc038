use Rattle.std.proofs.Common.{arith, refl}
use Rattle.boc_plans.specs.Seen.{seen}
use Rattle.boc_eager.proofs.EagerPlans.{differs}
use Rattle.boc_plan_commands.proofs.order.other_order.Goals as goal

pub returns-in-Some : goal.returns-in-Some
returns-in-Some c = record {
  plan = c.in_ok-plan.plan;
  is_plan = c.in_ok-plan.ensures;
  is = record {
    sooner = omega (arith, c.if-plan-span.false);
    end = refl;
    differs = rw (c.deref.ensures.value, c.new-seen.ensures.same, c.in-Some.is) at c.in_ok-swap.ensures;
  };
}

pub returns : goal.returns
returns c =
    let plan = c.in_ok-plan.plan in
    record {
      plan = plan;
      is_plan = c.in_ok-plan.ensures;
      is = absurd (differs (seen c.args.question.now.sharing c.args.question.now.rows.now) (rw c.new-seen.ensures.same at c.new-seen.ensures.shape)
          plan.starts.items c.in_ok-plan.ensures.eager c.args.span plan.end c.in_ok-plan.ensures.ends c.requires (omega (arith, c.if-plan-span.false))
          (rw (c.deref.ensures.value, c.new-seen.ensures.same, c.in-None.is) at c.in_ok-swap.ensures));
    }
