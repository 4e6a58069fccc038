use Rattle.std.proofs.Common.{length}
use Rattle.boc_uses.proofs.named.+all_differ.Given as goal

abbrev pub decreases-all_differ : goal.decreases-all_differ
decreases-all_differ l = length l.cowns.now
