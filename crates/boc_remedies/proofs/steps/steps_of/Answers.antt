use Rattle.std.proofs.Common.{rules, ◌∙◌, arith}
use Rattle.boc_runs.specs.Rows.{IsRows}
use Rattle.boc_remedies.proofs.RowsAfter.{length-after}
use Rattle.boc_remedies.proofs.StepByStep.{lead_all, lead_ends, lead_on}
use Rattle.boc_remedies.specs.Questions.{asked}
use Rattle.boc_remedies.proofs.steps.steps_of.Goals as goal

pub returns-in_default : goal.returns-in_default
returns-in_default g c = lead_ends (asked c.args.question.now) c.loop.counter c.loop.steps.items _ c.loop.invariant.1 c.args.most c.loop-test.true
    (rw (c.deref.ensures.value, c.in_default.is) at c.in_ok-best.ensures)

pub loop-preserved : goal.loop-preserved
loop-preserved g c =
    let question = (asked c.args.question.now) in
    let best = c.in-Some.best in
    let after = c.in_ok-rows-2.rows in
    let shape : IsRows after = search rules in (
      length-after c.loop.rows question.defs question.families best.remedy after c.in_ok-rows-2.ensures ∙ c.loop.invariant.0,
      lead_on question c.loop.counter c.loop.steps.items _ c.loop.invariant.1 best after c.push.new.self.items
          (rw (c.deref.ensures.value, c.in-Some.is) at c.in_ok-best.ensures) c.in_ok-rows-2.ensures shape c.in_ok-push.ensures.items,
    )

pub returns : goal.returns
returns g c = lead_all (asked c.args.question.now) c.loop.rows c.loop.counter c.args.most c.loop.steps.items c.loop.invariant.1
    (omega (arith, c.loop.auto.counter-end)) (omega (arith, c.loop-test.false))
