use Rattle.std.proofs.Common.{[], take}
use Rattle.boc_remedies.specs.LookedAt.{AreNew}
use Rattle.boc_remedies.specs.Questions.{asked}
use Rattle.boc_remedies.proofs.looked_at.new_sets.Given as goal

-- the sets that those so far make
abbrev pub invariant-loop-base : goal.invariant-loop-base
invariant-loop-base l = AreNew (asked l.question) l.looked (take l.base-index l.bases) [] l.sets.items
