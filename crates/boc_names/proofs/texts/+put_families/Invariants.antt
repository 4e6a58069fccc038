use Rattle.std.proofs.Common.{length}
use Rattle.boc_names.proofs.texts.+put_families.Given as goal

abbrev pub decreases-put_families : goal.decreases-put_families
decreases-put_families l = length l.cowns.now
