use Rattle.std.proofs.Common.{◌≡◌, ◌++◌, take}
use Rattle.boc_page.specs.Json.{more_numbers}
use Rattle.boc_page.proofs.json.put_more_numbers.Given as goal

-- what is there so far
abbrev pub invariant-loop-number : goal.invariant-loop-number
invariant-loop-number l = l.text.items ≡ l.fn.text.items ++ more_numbers (take l.number-index l.numbers)
