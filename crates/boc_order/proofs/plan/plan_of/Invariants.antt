use Rattle.std.proofs.Common.{length}
use Rattle.boc_order.specs.Placed.{ArePlaced}
use Rattle.boc_order.specs.Room.{HasRoom}
use Rattle.boc_order.specs.Uses.{AreUses}
use Rattle.boc_order.proofs.plan.plan_of.Given as goal

-- the rows so far are placed, and have used their cowns
abbrev pub invariant-loop-row : goal.invariant-loop-row
invariant-loop-row l = record {
  placed : ArePlaced l.rows l.plan.starts.items l.plan.ends.items l.plan.after.items l.row;
  room : HasRoom l.plan (length l.rows);
  uses : AreUses l.rows l.row l.uses.items;
}
