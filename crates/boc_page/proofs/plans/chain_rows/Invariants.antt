use Rattle.std.proofs.Common.{◌≡◌, map, take}
use Rattle.boc_page.proofs.plans.chain_rows.Given as goal

-- what is there so far
abbrev pub invariant-loop-step : goal.invariant-loop-step
invariant-loop-step l = l.column.items ≡ map (λ s. s.row) (take l.step-index l.steps)
