use Rattle.std.proofs.Common.{nat_lt}
use Rattle.boc_remedies.specs.Ends.{judged}
use Rattle.boc_remedies.proofs.InOrder.{IsLeft}
use Rattle.boc_remedies.proofs.candidates.place_of.Given as goal

-- none so far leaves more
abbrev pub invariant-loop-place : goal.invariant-loop-place
invariant-loop-place l = IsLeft (λ c. nat_lt (judged l.own.ends) (judged c.ends)) l.ranked l.place
