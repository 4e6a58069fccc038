use Rattle.std.specs.Prelude.{length}
use Rattle.boc_lines.proofs.values.+names_cown.Given as goal

abbrev pub decreases-names_cown : goal.decreases-names_cown
decreases-names_cown l = length l.references.now
