use Rattle.std.specs.Prelude.{length}
use Rattle.boc_lines.proofs.sizes.+put_sizes.Given as goal

abbrev pub decreases-put_sizes : goal.decreases-put_sizes
decreases-put_sizes l = length l.bodies.now
