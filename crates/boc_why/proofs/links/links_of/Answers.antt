use Rattle.std.proofs.Common.{List, ◌+◌, sym, subst}
use Rattle.boc_plans.specs.declared.chain.ChainStep.{ChainStep}
use Rattle.boc_plans.specs.declared.chain.Via.TheVariants.{Spawn}
use Rattle.boc_why.specs.declared.links.Link.{Link}
use Rattle.boc_why.proofs.LinkSteps.{SayLinks, say_none, say_more, say_all, link_holds}
use Rattle.boc_why.proofs.links.links_of.Goals as goal

-- what an index reads where there is no step
abbrev no_step : ChainStep
no_step = record { row = 0; via = Spawn; weight = 0 }

pub loop-place-init : goal.loop-place-init
loop-place-init c = subst (λ (links : List Link). SayLinks c.args.rows.now c.args.defs.now c.args.steps.now 0 links) (sym c.new-links.ensures.items)
    (say_none c.args.rows.now c.args.defs.now c.args.steps.now)

pub link_of-requires-clause-holds : goal.link_of-requires-clause-holds
link_of-requires-clause-holds c = link_holds c.args.rows.now c.args.defs.now c.args.steps.now c.requires.chain c.loop-place.place no_step
    c.step_after.result c.loop-place-test.true c.step_after.ensures

pub loop-place-preserved : goal.loop-place-preserved
loop-place-preserved c = subst (λ (links : List Link). SayLinks c.args.rows.now c.args.defs.now c.args.steps.now (c.loop-place.place + 1) links)
    (sym c.in_ok-push.ensures.items)
    (say_more c.args.rows.now c.args.defs.now c.args.steps.now c.loop-place.place c.loop-place.links.items no_step c.step_after.result c.link_of.result
    c.loop-place.invariant c.loop-place-test.true c.step_after.ensures c.link_of.ensures)

pub returns : goal.returns
returns c = say_all c.args.rows.now c.args.defs.now c.args.steps.now c.loop-place.place c.loop-place.links.items c.loop-place-test.false
    c.loop-place.auto.place-end c.loop-place.invariant
