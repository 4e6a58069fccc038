use Rattle.std.proofs.Common.{length}
use Rattle.boc_dispatch.proofs.live.+are_inputs_of.Given as goal

abbrev pub decreases-are_inputs_of : goal.decreases-are_inputs_of
decreases-are_inputs_of l = length l.inputs.now
