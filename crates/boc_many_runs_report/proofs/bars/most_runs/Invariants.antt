use Rattle.std.proofs.Common.{◌≡◌, take}
use Rattle.boc_many_runs_report.specs.ManyTexts.{most_runs}
use Rattle.boc_many_runs_report.proofs.bars.most_runs.Given as goal

-- the most so far
abbrev pub invariant-loop-bin : goal.invariant-loop-bin
invariant-loop-bin l = l.most ≡ most_runs (take l.bin-index l.bins)
