use Rattle.std.proofs.Common.{length}
use Rattle.boc_order.specs.Placed.{ArePlaced}
use Rattle.boc_order.specs.Room.{HasRoom}
use Rattle.boc_order.proofs.plan.Earliest.place_from.Given as goal

-- the rows so far are placed
abbrev pub invariant-loop-number : goal.invariant-loop-number
invariant-loop-number l =
    ArePlaced l.rows l.self.starts.items l.self.ends.items l.self.after.items l.number
    × HasRoom l.self (length l.rows)
