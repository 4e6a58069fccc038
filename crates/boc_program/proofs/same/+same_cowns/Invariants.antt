use Rattle.std.specs.Prelude.{length}
use Rattle.boc_program.proofs.same.+same_cowns.Given as goal

abbrev pub decreases-same_cowns : goal.decreases-same_cowns
decreases-same_cowns l = length l.a.now
