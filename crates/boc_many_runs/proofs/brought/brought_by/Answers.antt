use Rattle.std.proofs.Common.{◌<◌, ◌^◌, arith}
use Rattle.boc_remedies.specs.Ends.{judged}
use Rattle.boc_many_runs.proofs.Bounds.{ends_low}
use Rattle.boc_many_runs.proofs.brought.brought_by.Goals as goal

pub less_of-requires-clause-end : goal.less_of-requires-clause-end
less_of-requires-clause-end c =
    let q = c.args.question.now in
    let k = c.in_ok-left.ensures in
    let low : judged c.in_ok-left.left < 2 ^ 63 = ends_low q.sharing k.after k.shape q.workers c.in_ok-left.left k.are in
    omega (arith, low, c.judged-2.ensures)
