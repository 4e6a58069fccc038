use Rattle.std.specs.Prelude.{length}
use Rattle.boc_lines.proofs.numbers.+put_starts.Given as goal

abbrev pub decreases-put_starts : goal.decreases-put_starts
decreases-put_starts l = length l.bodies.now
