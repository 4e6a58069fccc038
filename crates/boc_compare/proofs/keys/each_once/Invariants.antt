use Rattle.boc_compare.proofs.EachOnce.{OnceSoFar}
use Rattle.boc_compare.proofs.keys.each_once.Given as goal

-- the numbers so far
abbrev pub invariant-loop-number : goal.invariant-loop-number
invariant-loop-number l = OnceSoFar l.numbers l.bound l.number-index l.seen.items l.once.items
