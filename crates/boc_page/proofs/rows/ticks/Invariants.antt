use Rattle.std.proofs.Common.{◌≡◌, map, take}
use Rattle.boc_page.proofs.rows.ticks.Given as goal

-- what is there so far
abbrev pub invariant-loop-row : goal.invariant-loop-row
invariant-loop-row l = l.column.items ≡ map (λ r. r.ticks) (take l.row-index l.rows)
