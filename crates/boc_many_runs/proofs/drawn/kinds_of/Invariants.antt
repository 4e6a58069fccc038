use Rattle.std.proofs.Common.{◌≡◌, map, take}
use Rattle.boc_many_runs.proofs.drawn.kinds_of.Given as goal

-- the kinds so far
abbrev pub invariant-loop-instance : goal.invariant-loop-instance
invariant-loop-instance l = l.kinds.items ≡ map (λ i. i.kind) (take l.instance-index l.instances)
