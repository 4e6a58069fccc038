use Rattle.std.proofs.Common.{ap, sym, subst}
use Rattle.std.specs.Vec.{vec_capacity}
use Rattle.boc_runs.specs.Legal.{IsComplete}
use Rattle.boc_rules.specs.Log.{Log}
use Rattle.boc_rules.proofs.Putting.{rows_of_log}
use Rattle.boc_rules.proofs.run_log.RunLog.into_record.Goals as goal

pub new-requires : goal.new-requires
new-requires c =
    let log = c.self.inside in
    let events = ap (λ (l : Log). l.events) c.self.view_is in
    let over = subst IsComplete (sym events) (c.is_complete.ensures.0 c.if-not-is_complete.false) in
    rows_of_log log.cowns log.rows.items log.happenings.items log.rooms (vec_capacity log.rows) (vec_capacity log.happenings) c.self.invariant over
