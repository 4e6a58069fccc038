use Rattle.std.specs.Prelude.{length}
use Rattle.boc_lines.proofs.walk.+put_values.Given as goal

abbrev pub decreases-put_values : goal.decreases-put_values
decreases-put_values l = length l.cowns.now
