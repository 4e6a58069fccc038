use Rattle.std.proofs.Common.{length}
use Rattle.boc_text.proofs.Progress.{HasSent}
use Rattle.boc_text.proofs.whole.put_out.Given as goal

abbrev pub invariant-loop-rest : goal.invariant-loop-rest
invariant-loop-rest g l = HasSent (g.W.Sink.written l.initial.sink) (g.W.Sink.written l.sink) l.bytes l.rest (g.W.Sink.failures l.initial.sink)
    (g.W.Sink.failures l.sink)

abbrev pub decreases-loop-rest : goal.decreases-loop-rest
decreases-loop-rest g l = length l.rest
