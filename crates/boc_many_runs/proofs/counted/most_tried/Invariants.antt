use Rattle.std.proofs.Common.{◌≡◌, map, take}
use Rattle.boc_many_runs.proofs.counted.most_tried.Given as goal

-- the remedies so far
abbrev pub invariant-loop-own : goal.invariant-loop-own
invariant-loop-own l = l.remedies.items ≡ map (λ c. c.remedy) (take l.own-index l.own-items)
