use Rattle.std.specs.Prelude.{length}
use Rattle.boc_lines.proofs.replay.+are_below.Given as goal

abbrev pub decreases-are_below : goal.decreases-are_below
decreases-are_below l = length l.cowns.now
