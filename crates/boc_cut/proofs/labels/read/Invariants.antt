use Rattle.std.proofs.Common.{◌≡◌}
use Rattle.boc_cut.proofs.labels.read.Given as goal

-- no call has failed
abbrev pub invariant-loop-line : goal.invariant-loop-line
invariant-loop-line g l = g.S.Source.failures l.source ≡ g.S.Source.failures l.fn.source
