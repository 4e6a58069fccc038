use Rattle.std.proofs.Common.{◌≡◌, take}
use Rattle.boc_page.proofs.plans.widened.Given as goal

-- what is there so far
abbrev pub invariant-loop-number : goal.invariant-loop-number
invariant-loop-number l = l.column.items ≡ take l.number-index l.numbers
