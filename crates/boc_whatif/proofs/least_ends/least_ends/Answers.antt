use Rattle.std.proofs.Common.{List, length, sym, ◌∙◌, ap, arith}
use Rattle.boc_runs.specs.declared.rows.Row.{Row}
use Rattle.boc_plans.specs.Plans.{work_of}
use Rattle.boc_plans.proofs.Seeing.{length-seen, work_of-seen}
use Rattle.boc_whatif.proofs.least_ends.least_ends.Goals as goal

pub greedy_over-requires-clause-work : goal.greedy_over-requires-clause-work
greedy_over-requires-clause-work g c =
    rw c.new-seen.ensures.same (c.work-work.ensures ∙ ap (λ (l : List Row). work_of l) c.as_slice.ensures.same
    ∙ sym (work_of-seen c.args.sharing c.args.rows.now))

pub all_ends-requires-clause-parts : goal.all_ends-requires-clause-parts
all_ends-requires-clause-parts g c κs within =
    let plan = rw c.new-seen.ensures.same at c.in_ok-plan.ensures in
    record {
      shape = c.as_slice.ensures.shape;
      waits_are = c.requires.waits;
      consequences_are = rw c.new-seen.ensures.same at c.in_ok-consequences.ensures;
      lasts_are = c.requires.lasts;
      starts_whole = omega (arith, ap length c.deref.ensures.value, plan.greedy.whole, length-seen c.args.sharing c.args.rows.now);
      end_is = record { plan = _; workers = _; greedy = plan.greedy; ends = plan.ends_at };
    }
