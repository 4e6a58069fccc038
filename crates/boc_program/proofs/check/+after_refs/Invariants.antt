use Rattle.std.specs.Prelude.{length}
use Rattle.boc_program.proofs.check.+after_refs.Given as goal

abbrev pub decreases-after_refs : goal.decreases-after_refs
decreases-after_refs l = length l.references.now
