use Rattle.std.specs.Prelude.{length}
use Rattle.boc_footprints.proofs.naming.+some_name.Given as goal

abbrev pub decreases-some_name : goal.decreases-some_name
decreases-some_name l = length l.references.now
