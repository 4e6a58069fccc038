use Rattle.std.proofs.Common.{length}
use Rattle.boc_notes.proofs.told.+instance_of.Given as goal

abbrev pub decreases-instance_of : goal.decreases-instance_of
decreases-instance_of l = length l.told.now
