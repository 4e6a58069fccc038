use Rattle.std.proofs.Common.{nat_lt}
use Rattle.boc_remedies.proofs.InOrder.{IsLeft}
use Rattle.boc_cowns_report.proofs.judged.place_of.Given as goal

-- none so far leaves more
abbrev pub invariant-loop-place : goal.invariant-loop-place
invariant-loop-place l = IsLeft (λ j. nat_lt l.own.end j.end) l.judged l.place
