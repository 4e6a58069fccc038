use Rattle.std.proofs.Common.{◌≡◌, map}
use Rattle.boc_page.specs.Advice.{cown_lines}
use Rattle.boc_page.proofs.advice.cown_table.Given as goal

-- what is there so far
abbrev pub invariant-loop-cown : goal.invariant-loop-cown
invariant-loop-cown l = map (λ c. c.items) l.column.items ≡ cown_lines l.cown l.hot
