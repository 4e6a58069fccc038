use Rattle.std.proofs.Common.{◌-◌, vec_len}
use Rattle.boc_text.proofs.Progress.{HasRead}
use Rattle.boc_text.proofs.whole.read_all.Given as goal

abbrev pub invariant-loop-chunk : goal.invariant-loop-chunk
invariant-loop-chunk g l = HasRead (g.S.Source.remaining l.initial.source) (g.S.Source.remaining l.source) l.text.items l.limit
    (g.S.Source.failures l.initial.source) (g.S.Source.failures l.source)

abbrev pub decreases-loop-chunk : goal.decreases-loop-chunk
decreases-loop-chunk g l = l.limit - vec_len l.text
