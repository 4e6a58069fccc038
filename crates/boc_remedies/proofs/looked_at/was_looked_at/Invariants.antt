use Rattle.std.proofs.Common.{◌≡◌, take, false}
use Rattle.std.specs.List.{list_any}
use Rattle.boc_remedies.specs.Families.{is_same_set}
use Rattle.boc_remedies.proofs.looked_at.was_looked_at.Given as goal

-- it is none of the sets so far
abbrev pub invariant-loop-own : goal.invariant-loop-own
invariant-loop-own l = list_any (λ own. is_same_set own.families l.set) (take l.own-index l.looked) ≡ false
