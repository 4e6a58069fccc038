use Rattle.std.proofs.Common.{List, ◌+◌, sym, subst}
use Rattle.boc_why.specs.declared.links.Link.{Link}
use Rattle.boc_remedies.proofs.GreedySteps.{SayGreedyLinks, say_more}
use Rattle.boc_remedies.proofs.greedy_why.greedy_links.Goals as goal

pub loop-place-preserved : goal.loop-place-preserved
loop-place-preserved c = subst (λ (links : List Link). SayGreedyLinks c.args.rows.now c.args.defs.now c.args.steps.now (c.loop-place.place + 1) links)
    (sym c.in_ok-push.ensures.items)
    (say_more c.args.rows.now c.args.defs.now c.args.steps.now c.loop-place.place c.loop-place.links.items _ c.step_after.result c.link_of.result
    c.loop-place.invariant c.loop-place-test.true c.step_after.ensures c.link_of.ensures)
