use Rattle.std.proofs.Common.{◌≡◌, ◌++◌}
use Rattle.boc_end_orders.specs.Traces.{HasNoEnd}
use Rattle.boc_end_orders.proofs.Spreading.{Entries}
use Rattle.boc_end_orders.proofs.search.order_with.Given as goal

-- none of the fronts before the next is the one
abbrev pub invariant-loop-front : goal.invariant-loop-front
invariant-loop-front l = (done : Entries) × (done ++ l.front-iterator ≡ l.layer.entries) × HasNoEnd done l.values
