use Rattle.std.proofs.Common.{◌≡◌, eqb, take}
use Rattle.std.specs.Prelude.{count_by}
use Rattle.boc_compare.proofs.families.members.Given as goal

-- the cowns so far
abbrev pub invariant-loop-own : goal.invariant-loop-own
invariant-loop-own l = l.count ≡ count_by (λ f. eqb f l.family) (take l.own-index l.families)
