use Rattle.std.specs.Prelude.{length}
use Rattle.boc_program.proofs.calls.+calls_fit.Given as goal

abbrev pub decreases-calls_fit : goal.decreases-calls_fit
decreases-calls_fit l = length l.callers.now
