use Rattle.std.proofs.Common.{◌++◌, ◌∙◌, ap}
use Rattle.boc_many_runs_report.specs.ManyTexts.{remedies_table, runs_text}
use Rattle.boc_many_runs_report.proofs.told.many_text.Goals as goal

pub returns : goal.returns
returns c =
    let runs = c.in_ok-put_runs.ensures ∙ ap (λ text. text ++ runs_text c.args.told.now c.args.many.now) c.new-text.ensures.items in
    record { is = c.in_ok-put_remedies.ensures ∙ (λ i. runs i ++ remedies_table c.args.names.now (c.deref.ensures.value i)) }
