use Rattle.std.proofs.Common.{◌≡◌, take}
use Rattle.boc_many_runs.specs.Bins.{many_within}
use Rattle.boc_many_runs.proofs.bins.many_within.Given as goal

-- how many of the numbers so far are within
abbrev pub invariant-loop-number : goal.invariant-loop-number
invariant-loop-number l = l.many ≡ many_within (take l.number-index l.numbers) l.first l.last
