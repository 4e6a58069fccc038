use Rattle.std.proofs.Common.{◌-◌, length}
use Rattle.boc_stream.proofs.Ahead.{HasWaited}
use Rattle.boc_stream.proofs.lines.LongLines.find.Given as goal

abbrev pub invariant-loop-len : goal.invariant-loop-len
invariant-loop-len g l = HasWaited l.initial.self l.self (g.S.Source.remaining l.initial.source) (g.S.Source.remaining l.source)
    (g.S.Source.failures l.initial.source) (g.S.Source.failures l.source)

abbrev pub decreases-loop-len : goal.decreases-loop-len
decreases-loop-len g l = 4097 - length l.self.buffered
