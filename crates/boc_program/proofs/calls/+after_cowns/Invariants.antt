use Rattle.std.specs.Prelude.{length}
use Rattle.boc_program.proofs.calls.+after_cowns.Given as goal

abbrev pub decreases-after_cowns : goal.decreases-after_cowns
decreases-after_cowns l = length l.cowns.now
