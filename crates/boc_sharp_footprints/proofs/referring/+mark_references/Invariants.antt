use Rattle.std.specs.Prelude.{length}
use Rattle.boc_sharp_footprints.proofs.referring.+mark_references.Given as goal

abbrev pub decreases-mark_references : goal.decreases-mark_references
decreases-mark_references l = length l.references.now
