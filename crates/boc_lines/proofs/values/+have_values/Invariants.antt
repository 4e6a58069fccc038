use Rattle.std.specs.Prelude.{length}
use Rattle.boc_lines.proofs.values.+have_values.Given as goal

abbrev pub decreases-have_values : goal.decreases-have_values
decreases-have_values l = length l.exprs.now
