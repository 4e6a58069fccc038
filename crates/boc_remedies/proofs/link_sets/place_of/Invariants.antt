use Rattle.boc_remedies.specs.LinkSets.{weighs_more}
use Rattle.boc_remedies.proofs.InOrder.{IsLeft}
use Rattle.boc_remedies.proofs.link_sets.place_of.Given as goal

-- none before the place weighs less
abbrev pub invariant-loop-place : goal.invariant-loop-place
invariant-loop-place l = IsLeft (weighs_more l.own) l.best l.place
