use Rattle.std.proofs.Common.{arith}
use Rattle.std.specs.Vec.{vec_capacity}
use Rattle.boc_rules.proofs.Logging.{few_events}
use Rattle.boc_rules.proofs.rules.Rules.make_room.Goals as goal

pub make_events_room-requires-clause-few : goal.make_events_room-requires-clause-few
make_events_room-requires-clause-few c =
    let happenings = c.self.inside.happenings in
    omega (arith, few_events c.self.inside.judge happenings.items (vec_capacity happenings) c.self.invariant, happenings.ok.0, c.count.ensures)
