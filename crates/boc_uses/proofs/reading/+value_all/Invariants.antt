use Rattle.std.proofs.Common.{length}
use Rattle.boc_uses.proofs.reading.+value_all.Given as goal

abbrev pub decreases-value_all : goal.decreases-value_all
decreases-value_all l = length l.exprs.now
