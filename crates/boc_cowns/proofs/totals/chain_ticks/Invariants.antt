use Rattle.boc_cowns.specs.Hot.{step_hands, weight_at}
use Rattle.boc_cowns.specs.Columns.{AreSums}
use Rattle.boc_cowns.proofs.totals.chain_ticks.Given as goal

-- the steps so far
abbrev pub invariant-loop-place : goal.invariant-loop-place
invariant-loop-place l = AreSums (step_hands l.rows l.steps) (weight_at l.steps) l.place l.totals.items
