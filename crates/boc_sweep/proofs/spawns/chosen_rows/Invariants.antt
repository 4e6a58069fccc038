use Rattle.std.proofs.Common.{length}
use Rattle.boc_sweep.specs.Bases.{IsEarlyBase, IsEarlyLeft}
use Rattle.boc_sweep.specs.Chosen.{AreChosen, HasRoom}
use Rattle.boc_sweep.specs.Crossing.{IsLatestEnd}
use Rattle.boc_sweep.proofs.spawns.chosen_rows.Given as goal

abbrev pub invariant-loop-row : goal.invariant-loop-row
invariant-loop-row l = record {
  chosen : AreChosen (IsEarlyLeft l.rows l.elders l.plan.starts.items l.tails.starts.items)
      (IsEarlyBase l.rows l.elders l.plan.starts.items l.plan.ends.items l.tails.starts.items) l.row l.chosen;
  room : HasRoom (length l.rows) l.chosen;
  latest : IsLatestEnd l.rows l.plan.starts.items l.row l.latest;
}
