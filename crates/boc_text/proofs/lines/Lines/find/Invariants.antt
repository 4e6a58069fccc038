use Rattle.std.proofs.Common.{◌-◌, length}
use Rattle.boc_text.proofs.Ahead.{HasWaited}
use Rattle.boc_text.proofs.lines.Lines.find.Given as goal

abbrev pub invariant-loop-len : goal.invariant-loop-len
invariant-loop-len g l = HasWaited l.initial.self l.self (g.S.Source.remaining l.initial.source) (g.S.Source.remaining l.source)
    (g.S.Source.failures l.initial.source) (g.S.Source.failures l.source)

abbrev pub decreases-loop-len : goal.decreases-loop-len
decreases-loop-len g l = 81 - length l.self.buffered
