use Rattle.std.proofs.Common.{◌≡◌, take}
use Rattle.std.specs.List.{fold}
use Rattle.boc_many_runs.specs.Union.{counted}
use Rattle.boc_many_runs.proofs.counted.count_all.Given as goal

-- the remedies so far are counted
abbrev pub invariant-loop-remedy : goal.invariant-loop-remedy
invariant-loop-remedy l = l.all.items ≡ fold counted l.fn.all.items (take l.remedy-index l.tried)
