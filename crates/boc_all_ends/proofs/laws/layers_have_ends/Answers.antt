use Rattle.boc_all_ends.proofs.EndsOfLayers.{layer_has_ends, endless_if, ends_below}
use Rattle.boc_all_ends.proofs.laws.layers_have_ends.Goals as goal

pub returns-clause-ends : goal.returns-clause-ends
returns-clause-ends c = layer_has_ends

pub returns-clause-endless : goal.returns-clause-endless
returns-clause-endless c = endless_if

pub returns-clause-noted : goal.returns-clause-noted
returns-clause-noted c = ends_below
