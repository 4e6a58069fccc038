use Rattle.std.proofs.Common.{◌≡◌, ◌++◌, take}
use Rattle.boc_advice_report.specs.AdviceTexts.{more_families}
use Rattle.boc_advice_report.proofs.words.put_more_families.Given as goal

-- the families so far
abbrev pub invariant-loop-family : goal.invariant-loop-family
invariant-loop-family l = l.text.items ≡ l.fn.text.items ++ more_families l.names (take l.family-index l.families)
