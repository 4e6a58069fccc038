use Rattle.std.proofs.Common.{◌≡◌, length}
use Rattle.boc_why_report.specs.ChainTexts.{common}
use Rattle.boc_why_report.proofs.folded.common_cowns.Given as goal

-- what is left has the same in common
abbrev pub invariant-loop-rest : goal.invariant-loop-rest
invariant-loop-rest l = common l.rest ≡ common l.links

abbrev pub decreases-loop-rest : goal.decreases-loop-rest
decreases-loop-rest l = length l.rest
