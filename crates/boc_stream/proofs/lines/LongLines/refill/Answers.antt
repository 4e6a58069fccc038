use Rattle.std.proofs.Common.{arith, ◌-◌}
use Rattle.boc_stream.proofs.Ahead.{refilled}
use Rattle.boc_stream.proofs.lines.LongLines.refill.Goals as goal

pub returns-clause-bytes : goal.returns-clause-bytes
returns-clause-bytes g c =
    let inside = c.self.inside in
    let len = inside.end - inside.start in
    rw (← c.self.view_is) (refilled _ _ _ c.move_to_front.new.buffer c.read.new.buffer len _ c.in_ok-count.count c.move_to_front.ensures.front
    (omega (arith, c.move_to_front.auto.buffer, c.self.told)) c.in_ok-count.ensures.bound.0 c.in_ok-count.ensures.bytes.0)
