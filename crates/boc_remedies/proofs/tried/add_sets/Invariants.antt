use Rattle.std.proofs.Common.{◌≡◌, take}
use Rattle.std.specs.List.{fold}
use Rattle.boc_remedies.specs.Tried.{added_set}
use Rattle.boc_remedies.proofs.tried.add_sets.Given as goal

-- the sets so far are added
abbrev pub invariant-loop-set : goal.invariant-loop-set
invariant-loop-set l = l.sets.items ≡ fold added_set l.fn.sets.items (take l.set-index l.more)
