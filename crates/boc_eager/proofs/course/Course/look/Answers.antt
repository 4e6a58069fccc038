use Rattle.std.proofs.Common.{arith}
use Rattle.boc_eager.proofs.Finishing.{looks_idle}
use Rattle.boc_eager.proofs.Lining.{at_read}
use Rattle.boc_eager.proofs.course.Course.look.Goals as goal

pub returns-in_default : goal.returns-in_default
returns-in_default c =
    let s = c.args.self.now in
    let h = c.requires.hand in
    looks_idle c.args.rows.now s c.args.row h c.index.result.now
    (at_read s.places.items c.args.row c.index.result.now (omega (arith, h.there, h.kept.of_rows.places_whole)) c.index.ensures)
    c.in_default.not-New c.in_default.not-First c.in_default.not-FirstFor
