use Rattle.std.proofs.Common.{arith}
use Rattle.boc_chain.specs.Chain.{flag_one}
use Rattle.boc_chain.proofs.Marks.{map_step}
use Rattle.boc_chain.proofs.requests.mark_flagged.Goals as goal

pub loop-request-preserved : goal.loop-request-preserved
loop-request-preserved c = map_step (flag_one c.args.slot) c.args.requests.now c.loop-request.requests c.loop-request.request-index _ _ (omega arith)
    c.flagged_if.ensures c.loop-request.invariant
