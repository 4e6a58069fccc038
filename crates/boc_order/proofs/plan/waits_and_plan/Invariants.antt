use Rattle.std.proofs.Common.{length}
use Rattle.boc_order.specs.Gathered.{AreGathered}
use Rattle.boc_order.specs.Placed.{ArePlaced}
use Rattle.boc_order.specs.Room.{HasRoom}
use Rattle.boc_order.proofs.plan.waits_and_plan.Given as goal

-- the waits of the rows so far are gathered, and the rows are placed
abbrev pub invariant-loop-row : goal.invariant-loop-row
invariant-loop-row l = record {
  gathered : AreGathered l.rows l.row l.gathering;
  placed : ArePlaced l.rows l.plan.starts.items l.plan.ends.items l.plan.after.items l.row;
  room : HasRoom l.plan (length l.rows);
}
