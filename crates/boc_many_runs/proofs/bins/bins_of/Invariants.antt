use Rattle.std.proofs.Common.{◌≡◌, map}
use Rattle.std.specs.List.{range_with_len}
use Rattle.boc_many_runs.specs.Bins.{bin_at}
use Rattle.boc_many_runs.proofs.bins.bins_of.Given as goal

-- the bins so far
abbrev pub invariant-loop-place : goal.invariant-loop-place
invariant-loop-place l = l.bins.items ≡ map (bin_at l.numbers l.least l.most) (range_with_len 0 l.place)
