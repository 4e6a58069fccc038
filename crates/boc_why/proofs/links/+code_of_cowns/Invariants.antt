use Rattle.std.proofs.Common.{length}
use Rattle.boc_why.proofs.links.+code_of_cowns.Given as goal

-- how many cowns are left
abbrev pub decreases-code_of_cowns : goal.decreases-code_of_cowns
decreases-code_of_cowns l = length l.cowns.now
