use Rattle.std.proofs.Common.{◌≡◌, ◌++◌, drop}
use Rattle.boc_front_rows.specs.Orders.{kept_from}
use Rattle.boc_front_rows.proofs.arranging.wishing.Given as goal

abbrev pub invariant-loop-place : goal.invariant-loop-place
invariant-loop-place l = l.kept.items ++ kept_from l.place (drop l.place l.done) ≡ kept_from 0 l.done
