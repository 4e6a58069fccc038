use Rattle.std.proofs.Common.{◌≡◌, drop}
use Rattle.boc_front_rows.specs.Orders.{placed}
use Rattle.boc_front_rows.proofs.arranging.place.Given as goal

abbrev pub invariant-loop-next : goal.invariant-loop-next
invariant-loop-next l = placed l.next l.places (drop l.next l.kept) ≡ placed 0 l.fn.places l.kept
