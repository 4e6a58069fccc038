use Rattle.std.specs.Prelude.{length}
use Rattle.boc_sharp_footprints.proofs.referring.+all_may_lead.Given as goal

abbrev pub decreases-all_may_lead : goal.decreases-all_may_lead
decreases-all_may_lead l = length l.references.now
