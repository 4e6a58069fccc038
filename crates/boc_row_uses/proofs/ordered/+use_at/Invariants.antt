use Rattle.std.proofs.Common.{length}
use Rattle.boc_row_uses.proofs.ordered.+use_at.Given as goal

abbrev pub decreases-use_at : goal.decreases-use_at
decreases-use_at l = length l.cowns.now
