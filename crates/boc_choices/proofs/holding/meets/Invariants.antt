use Rattle.std.proofs.Common.{◌≡◌, ◌<◌, length}
use Rattle.boc_front_rows.specs.Lists.{list_at}
use Rattle.boc_choices.specs.Holding.{meets}
use Rattle.boc_choices.proofs.holding.meets.Given as goal

abbrev pub invariant-loop-far : goal.invariant-loop-far
invariant-loop-far l = record {
  there : l.list < length l.lists;
  same : meets l.table l.cowns (list_at l.lists l.list) ≡ meets l.table l.cowns (list_at l.lists l.initial.list);
}

abbrev pub decreases-loop-far : goal.decreases-loop-far
decreases-loop-far l = length (list_at l.lists l.list)
