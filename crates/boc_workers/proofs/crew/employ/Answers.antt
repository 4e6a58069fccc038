use denote.Param.Send.{sendable}
use Rattle.std.proofs.Crossing.{crosses}
use Rattle.boc_workers.proofs.Crossing.{hall_sync}
use Rattle.boc_workers.proofs.made.Made.TheSendSync as made
use Rattle.boc_workers.proofs.crew.employ.Goals as goal

pub spawn_scoped-requires-send-F : goal.spawn_scoped-requires-send-F
spawn_scoped-requires-send-F g c κs within = search (sendable, crosses, hall_sync, made.the_send) depth 60
