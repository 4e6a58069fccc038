use Rattle.std.proofs.Common.{length}
use Rattle.boc_reader.proofs.stray.+step.Given as goal

abbrev pub decreases-step : goal.decreases-step
decreases-step l = length l.wanted.now
