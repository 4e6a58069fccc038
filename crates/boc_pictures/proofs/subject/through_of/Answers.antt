use Rattle.std.proofs.Common.{◌≡◌, ℕ, get_or, length, arith, subst}
use Rattle.std.specs.Prelude.{replicate}
use Rattle.std.proofs.lemmas.List.{drop_more}
use Rattle.boc_cowns.proofs.Steps.{no_step, step_there}
use Rattle.boc_pictures.proofs.Showing.{through_begins, through_ends, through_next}
use Rattle.boc_pictures.proofs.subject.through_of.Goals as goal

pub loop-step-init : goal.loop-step-init
loop-step-init c = through_begins (length c.args.rows.now) c.args.steps.now c.in_ok-through.through.items
    (subst (λ (n : ℕ). c.in_ok-through.through.items ≡ replicate n 0) c.len.ensures.count (c.in_ok-through.ensures.items_if_clones_equal (λ y e. e)))

pub index_mut-requires : goal.index_mut-requires
index_mut-requires c =
    let there = step_there c.args.rows.now c.args.steps.now c.requires c.loop-step.step-index (omega arith) in
    omega (arith, there, c.loop-step.invariant.whole)

pub loop-step-preserved : goal.loop-step-preserved
loop-step-preserved c =
    through_next (length c.args.rows.now) c.args.steps.now c.loop-step.step-index (get_or c.args.steps.now c.loop-step.step-index no_step)
    (drop_more c.args.steps.now c.loop-step.step-index no_step (omega arith)) c.loop-step.through.items
    (step_there c.args.rows.now c.args.steps.now c.requires c.loop-step.step-index (omega arith)) c.loop-step.invariant

pub returns-clause-whole : goal.returns-clause-whole
returns-clause-whole c = c.loop-step.invariant.whole

pub returns-clause-each : goal.returns-clause-each
returns-clause-each c = through_ends (length c.args.rows.now) c.args.steps.now c.loop-step.step-index c.loop-step.through.items (omega arith)
    c.loop-step.invariant
