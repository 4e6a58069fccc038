use Rattle.std.proofs.Common.{◌∙◌, ◌-◌, ◌∷◌, ◌++◌, [], List, take, ap, decimal}
use Rattle.boc_plans.specs.declared.chain.ChainStep.{ChainStep}
use Rattle.boc_plans.specs.declared.chain.Via.TheVariants.{Spawn}
use Rattle.boc_names.specs.Names.{Text}
use Rattle.boc_table.specs.Tables.{Grid}
use Rattle.boc_why.specs.declared.links.Link.{Link}
use Rattle.boc_why_report.specs.ChainTexts.{stretch_then}
use Rattle.boc_why_report.proofs.Folds.{told_line}
use Rattle.boc_why_report.proofs.folded.put_folded.Goals as goal

pub returns : goal.returns
returns c =
    let none : ChainStep = record { row = 0; via = Spawn; weight = 0 } in
    let old : Grid = c.args.table.now in
    let links = c.args.links.now in
    c.in_ok-put_line.ensures.ok
    ∙ ap (λ (texts : List Text). record old { lines = old.lines ++ texts ∷ [] })
    (told_line c.args.names.now c.args.starts.now c.args.steps.now links c.args.count none c.index-links-count.result c.step_at-next.result
    c.deref.result.now c.deref-2.result.now c.deref-3.result.now c.deref-4.result.now c.deref-5.result.now c.requires.whole c.requires.some
    c.requires.within c.step_at-next.ensures (c.deref.ensures.value ∙ c.in_ok-tick.ensures)
    (c.deref-2.ensures.value ∙ c.in_ok-ticks.ensures ∙ ap decimal c.ticks_of.ensures) (c.deref-3.ensures.value ∙ c.in_ok-rows.ensures)
    (c.deref-4.ensures.value ∙ c.in_ok-behaviours.ensures)
    (c.deref-5.ensures.value ∙ c.in_ok-then.ensures
    ∙ ap (λ (link : Link). stretch_then c.args.names.now (take (c.args.count - 1) links) link c.step_at-next.result) c.index-links-count.is))
