use Rattle.std.specs.Prelude.{length}
use Rattle.boc_program.proofs.cells.+put_refs.Given as goal

abbrev pub decreases-put_refs : goal.decreases-put_refs
decreases-put_refs l = length l.references.now
