use Rattle.std.proofs.Common.{◌≡◌, ◌++◌, drop}
use Rattle.boc_front_rows.specs.Orders.{moved}
use Rattle.boc_front_rows.proofs.arranging.places_after.Given as goal

abbrev pub invariant-loop-place : goal.invariant-loop-place
invariant-loop-place l = l.after.items ++ moved l.places (drop l.place-index l.before) ≡ moved l.places l.before
