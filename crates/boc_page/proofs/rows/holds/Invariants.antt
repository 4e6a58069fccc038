use Rattle.std.proofs.Common.{◌≡◌, map, take}
use Rattle.boc_page.specs.Columns.{cowns_of}
use Rattle.boc_page.proofs.rows.holds.Given as goal

-- what is there so far
abbrev pub invariant-loop-row : goal.invariant-loop-row
invariant-loop-row l = map (λ c. c.items) l.column.items ≡ map cowns_of (take l.row-index l.rows)
