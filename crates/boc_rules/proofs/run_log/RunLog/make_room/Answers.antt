use Rattle.std.proofs.Common.{arith}
use Rattle.std.specs.Vec.{vec_capacity}
use Rattle.boc_runs.specs.Happenings.{told}
use Rattle.boc_runs.specs.Legal.{entries}
use Rattle.boc_rules.proofs.Logging.{few_events}
use Rattle.boc_rules.proofs.Putting.{logged_of}
use Rattle.boc_rules.proofs.run_log.RunLog.make_room.Goals as goal

pub make_events_room-requires-clause-few : goal.make_events_room-requires-clause-few
make_events_room-requires-clause-few c =
    let log = c.self.inside in
    let rows = log.rows.items in
    let happenings = log.happenings.items in
    let logged = logged_of log.cowns rows happenings log.rooms (vec_capacity log.rows) (vec_capacity log.happenings) c.self.invariant in
    let few = few_events (record { cowns = log.cowns; rows = entries (told happenings rows); rooms = log.rooms }) happenings (vec_capacity log.happenings)
    logged in
    omega (arith, few, c.self.invariant.rows_are.all, log.happenings.ok.0, log.rows.ok.0, c.len.ensures)
