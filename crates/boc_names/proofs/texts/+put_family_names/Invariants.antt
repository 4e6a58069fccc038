use Rattle.std.proofs.Common.{length}
use Rattle.boc_names.proofs.texts.+put_family_names.Given as goal

abbrev pub decreases-put_family_names : goal.decreases-put_family_names
decreases-put_family_names l = length l.cowns.now
