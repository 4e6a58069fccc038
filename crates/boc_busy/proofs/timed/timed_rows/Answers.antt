use Rattle.std.proofs.Common.{sym, ◌∙◌}
use Rattle.boc_plans.specs.declared.sharing.Sharing.TheVariants.{Exclusive}
use Rattle.boc_plans.proofs.Seeing.{work_of-seen}
use Rattle.boc_busy.proofs.timed.timed_rows.Goals as goal

-- the rows take as many ticks, whatever is shared
pub timed-requires-clause-work : goal.timed-requires-clause-work
timed-requires-clause-work c = rw c.new-rows.ensures.same
    ((rw c.as_slice.ensures.same at c.work-work.ensures) ∙ sym (work_of-seen Exclusive c.args.rows.now))
