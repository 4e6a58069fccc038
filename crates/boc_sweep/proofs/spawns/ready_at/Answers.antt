use Rattle.std.proofs.Common.{◌≡◌, length, arith}
use Rattle.std.proofs.lemmas.List.Elements.{Contains-get_or}
use Rattle.boc_sweep.proofs.Spawning.{ready_none, ready_more, ready_all}
use Rattle.boc_sweep.proofs.spawns.ready_at.Goals as goal

pub loop-before-init : goal.loop-before-init
loop-before-init c = ready_none _ _ _

pub bounds-ends-before : goal.bounds-ends-before
bounds-ends-before c = c.requires _ (Contains-get_or c.args.waits.now c.loop-before.before-index 0 c.loop-before-test.true)

pub loop-before-preserved : goal.loop-before-preserved
loop-before-preserved c = ready_more _ _ _ c.loop-before.before-index c.loop-before.tick _ c.max-tick.ensures c.loop-before.invariant

pub returns : goal.returns
returns c =
    let all : c.loop-before.before-index ≡ length c.args.waits.now = omega (arith, c.loop-before-test.false, c.loop-before.auto.before-index-end) in
    ready_all _ _ _ c.loop-before.tick (rw all at c.loop-before.invariant)
