use Rattle.std.proofs.Common.{◌∙◌, ◌++◌, ◌∷◌, [], get_or, ap, arith}
use Rattle.boc_plans.specs.declared.chain.ChainStep.{ChainStep}
use Rattle.boc_plans.specs.declared.chain.Via.TheVariants.{Spawn}
use Rattle.boc_table.specs.Tables.{Grid}
use Rattle.boc_why.specs.declared.links.Link.{Link}
use Rattle.boc_why_report.specs.ChainTexts.{step_texts}
use Rattle.boc_why_report.proofs.Legs.{lines_next}
use Rattle.boc_why_report.proofs.chain.put_steps.Goals as goal

pub loop-place-preserved : goal.loop-place-preserved
loop-place-preserved c =
    let none : ChainStep = record { row = 0; via = Spawn; weight = 0 } in
    let step : ChainStep = get_or c.args.steps.now c.loop-place.place none in
    record {
      sides = ap (λ (t : Grid). t.sides) c.in_ok-put_step.ensures ∙ c.loop-place.invariant.sides;
      lines = lines_next c.args.names.now c.args.starts.now c.args.steps.now c.args.links.now c.loop-place.place none c.index-links-place.result
          c.step_at-next.result c.args.table.now.lines c.loop-place.table.lines c.put_step.new.table.lines c.requires.whole (omega arith)
          c.step_at-next.ensures c.loop-place.invariant.lines
          (ap (λ (t : Grid). t.lines) c.in_ok-put_step.ensures
          ∙ ap (λ (link : Link). c.loop-place.table.lines
          ++ step_texts c.args.names.now c.args.starts.now step link c.step_at-next.result ∷ []) c.index-links-place.is);
    }
