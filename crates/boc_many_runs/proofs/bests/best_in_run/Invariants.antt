use Rattle.std.proofs.Common.{◌≡◌, None}
use Rattle.std.specs.List.{fold, range_with_len}
use Rattle.boc_many_runs.specs.Lines.{better}
use Rattle.boc_many_runs.proofs.bests.best_in_run.Given as goal

-- the best so far
abbrev pub invariant-loop-place : goal.invariant-loop-place
invariant-loop-place l = l.best ≡ fold (better l.remedies l.columns l.number) None (range_with_len 0 l.place)
