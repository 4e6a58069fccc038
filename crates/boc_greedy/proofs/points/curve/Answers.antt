use Rattle.std.proofs.Common.{sym, ◌∙◌}
use Rattle.boc_plans.proofs.Seeing.{work_of-seen}
use Rattle.boc_greedy.proofs.points.curve.Goals as goal

-- the rows take as many ticks, whatever is shared
pub curve_over-requires-clause-work : goal.curve_over-requires-clause-work
curve_over-requires-clause-work g c κs within = rw c.new-rows.ensures.same
    ((rw c.as_slice.ensures.same at c.work-work.ensures) ∙ sym (work_of-seen c.args.sharing c.args.rows.now))
