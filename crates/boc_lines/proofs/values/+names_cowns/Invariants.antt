use Rattle.std.specs.Prelude.{length}
use Rattle.boc_lines.proofs.values.+names_cowns.Given as goal

abbrev pub decreases-names_cowns : goal.decreases-names_cowns
decreases-names_cowns l = length l.references.now
