use Rattle.std.proofs.Common.{◌≡◌, sym, ◌∙◌, subst}
use Rattle.boc_runs.specs.Legal.{IsComplete}
use Rattle.boc_end_orders.proofs.Records.{log_is_complete, records_end}
use Rattle.boc_end_orders.proofs.recording.record_to.Goals as goal

pub record_of-requires-clause-complete : goal.record_of-requires-clause-complete
record_of-requires-clause-complete c =
    subst IsComplete (sym c.events-events.ensures.value) (log_is_complete c.args.program.now c.args.end.now c.in_ok-run.run' c.in_ok-run.ensures)

pub returns : goal.returns
returns c =
    let made = c.in_ok-made.ensures in
    records_end c.args.program.now c.args.end.now c.in_ok-run.run' c.cowns.result c.in_ok-made.made c.in_ok-run.ensures c.cowns.ensures made.cowns
    (made.events ∙ c.events-events.ensures.value) made.is_record
