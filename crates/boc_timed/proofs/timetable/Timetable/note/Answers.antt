use Rattle.std.proofs.Common.{refl, arith}
use Rattle.boc_timed.proofs.Places.{placed}
use Rattle.boc_timed.proofs.timetable.Timetable.note.Goals as goal

pub returns-clause-noted : goal.returns-clause-noted
returns-clause-noted c =
    placed c.args.self.now c.args.row c.loop-self.self c.loop-self.invariant.1 c.loop-self.invariant.0 _ refl c.args.time c.args.worker
    (omega (arith, c.loop-self-test.false, c.len.ensures)) refl refl
