use Rattle.boc_sweep.proofs.Spanning.{crossing_none}
use Rattle.boc_sweep.proofs.sweeping.all_stretches.Goals as goal

pub loop-row-init : goal.loop-row-init
loop-row-init c = crossing_none _ _ _ _ _ _ c.new-stretches.ensures.items
