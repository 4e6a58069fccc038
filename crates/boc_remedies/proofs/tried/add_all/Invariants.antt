use Rattle.std.proofs.Common.{◌≡◌, take}
use Rattle.std.specs.List.{fold}
use Rattle.boc_remedies.specs.Tried.{added}
use Rattle.boc_remedies.proofs.tried.add_all.Given as goal

-- the numbers so far are added
abbrev pub invariant-loop-number : goal.invariant-loop-number
invariant-loop-number l = l.list.items ≡ fold added l.fn.list.items (take l.number-index l.numbers)
