use Rattle.std.proofs.Common.{◌≡◌, ◌++◌, drop}
use Rattle.boc_front_rows.specs.Orders.{done_of}
use Rattle.boc_front_rows.specs.Rows.{plains}
use Rattle.boc_front_rows.proofs.arranging.done.Given as goal

abbrev pub invariant-loop-row : goal.invariant-loop-row
invariant-loop-row l = l.done.items ++ done_of l.lists (plains (drop l.row-index l.live)) ≡ done_of l.lists (plains l.live)
