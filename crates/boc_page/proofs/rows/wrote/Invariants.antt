use Rattle.std.proofs.Common.{◌≡◌, map, take}
use Rattle.boc_page.specs.Columns.{wrote_of}
use Rattle.boc_page.proofs.rows.wrote.Given as goal

-- what is there so far
abbrev pub invariant-loop-row : goal.invariant-loop-row
invariant-loop-row l = l.column.items ≡ map wrote_of (take l.row-index l.rows)
