use Rattle.std.proofs.Common.{◌≤◌, ◌-◌}
use Rattle.boc_whatif.specs.Freed.{AreEndsWithout}
use Rattle.boc_whatif.proofs.cown_ends.cown_ends.Given as goal

-- the ends for the cowns that are done
abbrev pub invariant-loop-done : goal.invariant-loop-done
invariant-loop-done g l = record {
  within : l.done ≤ l.count;
  ends : AreEndsWithout l.rows l.workers 0 l.done l.all.items;
}

abbrev pub decreases-loop-done : goal.decreases-loop-done
decreases-loop-done g l = l.count - l.done
