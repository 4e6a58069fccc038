use Rattle.boc_draws.proofs.Picking.{IsFrom}
use Rattle.boc_draws.proofs.picker.first_of.Given as goal

abbrev pub invariant-loop-place : goal.invariant-loop-place
invariant-loop-place l = IsFrom l.order l.movers l.place
