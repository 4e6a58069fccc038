use Rattle.std.proofs.Common.{take}
use Rattle.boc_front_rows.specs.Orders.{AreMoved}
use Rattle.boc_front_rows.specs.Rows.{plains}
use Rattle.boc_front_rows.proofs.arranging.moved_rows.Given as goal

-- the rows at the places so far
abbrev pub invariant-loop-place : goal.invariant-loop-place
invariant-loop-place l = AreMoved l.places (take l.place-index l.kept) (plains l.live) (plains l.rows.items)
