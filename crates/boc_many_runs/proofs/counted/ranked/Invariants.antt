use Rattle.std.proofs.Common.{◌≡◌, ◌≤◌, [], length, take}
use Rattle.std.specs.List.{fold}
use Rattle.boc_many_runs.specs.declared.counted.TheConstants.{MOST_JUDGED}
use Rattle.boc_many_runs.specs.Union.{ranked_with}
use Rattle.boc_many_runs.proofs.counted.ranked.Given as goal

-- the first of those so far
abbrev pub invariant-loop-own : goal.invariant-loop-own
invariant-loop-own l = record {
  ranked : l.best.items ≡ fold ranked_with [] (take l.own-index l.all);
  few : length l.best.items ≤ MOST_JUDGED;
}
