use Rattle.boc_remedies.specs.Remedies.{is_same}
use Rattle.boc_remedies.proofs.InOrder.{IsLeft}
use Rattle.boc_many_runs.proofs.counted.place_of.Given as goal

-- none so far is this remedy
abbrev pub invariant-loop-place : goal.invariant-loop-place
invariant-loop-place l = IsLeft (λ c. is_same c.remedy l.remedy) l.all l.place
