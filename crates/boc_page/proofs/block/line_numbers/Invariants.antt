use Rattle.std.proofs.Common.{◌≡◌, map, take}
use Rattle.boc_page.specs.Blocks.{line_numbers}
use Rattle.boc_page.proofs.block.line_numbers.Given as goal

-- what is there so far
abbrev pub invariant-loop-own : goal.invariant-loop-own
invariant-loop-own l = map (λ n. n.items) l.column.items ≡ map line_numbers (take l.own-index l.lines)
