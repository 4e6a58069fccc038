use Rattle.std.proofs.Common.{length}
use Rattle.tables.proofs.main.Given as goal

abbrev pub decreases-loop-kind : goal.decreases-loop-kind
decreases-loop-kind g l = length l.rest
