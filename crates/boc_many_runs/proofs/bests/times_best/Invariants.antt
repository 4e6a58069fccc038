use Rattle.std.proofs.Common.{◌≡◌, take}
use Rattle.boc_many_runs.specs.Lines.{times_best}
use Rattle.boc_many_runs.proofs.bests.times_best.Given as goal

-- how often in the runs so far
abbrev pub invariant-loop-best : goal.invariant-loop-best
invariant-loop-best l = l.times ≡ times_best (take l.best-index l.all) l.place
