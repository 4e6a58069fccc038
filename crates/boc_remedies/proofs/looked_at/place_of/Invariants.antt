use Rattle.boc_remedies.specs.LookedAt.{is_better}
use Rattle.boc_remedies.proofs.InOrder.{IsLeft}
use Rattle.boc_remedies.proofs.looked_at.place_of.Given as goal

-- none before the place is worse
abbrev pub invariant-loop-place : goal.invariant-loop-place
invariant-loop-place l = IsLeft (is_better l.own) l.best l.place
