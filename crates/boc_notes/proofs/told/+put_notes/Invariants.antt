use Rattle.std.proofs.Common.{length}
use Rattle.boc_notes.proofs.told.+put_notes.Given as goal

abbrev pub decreases-put_notes : goal.decreases-put_notes
decreases-put_notes l = length l.faulted.now
