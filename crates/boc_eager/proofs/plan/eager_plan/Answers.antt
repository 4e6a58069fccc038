use Rattle.std.proofs.Common.{List, subst}
use Rattle.boc_runs.specs.declared.rows.Row.{Row}
use Rattle.boc_runs.specs.Siblings.{AreYoungers}
use Rattle.boc_eager.specs.Eager.{IsEagerPlanOf}
use Rattle.boc_eager.proofs.Beginning.{youngers_seen}
use Rattle.boc_eager.proofs.plan.eager_plan.Goals as goal

pub returns : goal.returns
returns c = subst (λ (rows : List Row). IsEagerPlanOf rows (record { starts = c.finish.new.self.starts; end = c.finish.new.self.end })) c.new-seen.ensures.same
    (record { eager = c.in_ok-finish.ensures.eager; ends = c.in_ok-finish.ensures.ends })

pub new-requires-clause-siblings : goal.new-requires-clause-siblings
new-requires-clause-siblings c =
    let s = c.in_ok-siblings.siblings in
    let own = subst (λ (rows : List Row). AreYoungers rows s.firsts.items s.youngers.items) c.as_slice.ensures.same c.in_ok-siblings.ensures.down in
    rw c.new-seen.ensures.same (youngers_seen c.args.sharing c.args.rows.now s.firsts.items s.youngers.items own)
