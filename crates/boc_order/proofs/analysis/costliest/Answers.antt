use Rattle.boc_order.proofs.Chaining.{placed_earliest, earliest_le_end, span_is_end}
use Rattle.boc_order.proofs.Checking.{chain_short}
use Rattle.boc_order.proofs.analysis.costliest.Goals as goal

pub returns-clause-earliest : goal.returns-clause-earliest
returns-clause-earliest c = placed_earliest _ c.requires.shape _ _ _ c.requires.placed

pub returns-clause-no_sooner : goal.returns-clause-no_sooner
returns-clause-no_sooner c =
    earliest_le_end _ _ _ (returns-clause-earliest c)
    (span_is_end _ _ _ _ c.requires.placed c.last_row-last.result c.index.result.now
    (rw c.deref.ensures.value at c.last_row-last.ensures.there) (rw c.deref.ensures.value at c.last_row-last.ensures.latest) c.index.ensures)

pub returns-clause-short : goal.returns-clause-short
returns-clause-short c = chain_short _ c.requires.shape _ c.in_ok-chain.ensures.picked.chain
