use Rattle.std.proofs.Common.{◌≡◌, ◌++◌, take}
use Rattle.boc_page.specs.Advice.{more_candidates}
use Rattle.boc_page.proofs.advice.put_more_candidates.Given as goal

-- what is there so far
abbrev pub invariant-loop-own : goal.invariant-loop-own
invariant-loop-own l = l.text.items ≡ l.fn.text.items ++ more_candidates l.names (take l.own-index l.candidates)
