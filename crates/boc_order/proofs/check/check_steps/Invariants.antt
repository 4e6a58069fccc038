use Rattle.boc_order.proofs.Checking.{Checked}
use Rattle.boc_order.proofs.check.check_steps.Given as goal

-- the steps so far hold
abbrev pub invariant-loop-place : goal.invariant-loop-place
invariant-loop-place l = Checked l.rows l.steps l.place l.weight
