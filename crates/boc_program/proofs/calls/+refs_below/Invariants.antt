use Rattle.std.specs.Prelude.{length}
use Rattle.boc_program.proofs.calls.+refs_below.Given as goal

abbrev pub decreases-refs_below : goal.decreases-refs_below
decreases-refs_below l = length l.references.now
