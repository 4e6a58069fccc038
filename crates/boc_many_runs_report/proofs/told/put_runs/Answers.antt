use Rattle.std.proofs.Common.{◌++◌, ◌∙◌, ap}
use Rattle.boc_advice_report.proofs.Regroup.{put_three}
use Rattle.boc_many_runs_report.specs.ManyTexts.{bins_part, head_part, numbers_part}
use Rattle.boc_many_runs_report.proofs.told.put_runs.Goals as goal

pub returns : goal.returns
returns c =
    let told = c.args.told.now in
    let many = c.args.many.now in
    let bins = c.in_ok-put_bins_part.ensures
    ∙ ap (λ own. c.put_numbers_part.new.text.items ++ bins_part told.plan_workers own) c.deref.ensures.value in
    put_three c.args.text.now.items (head_part told) (numbers_part told.plan_workers many) (bins_part told.plan_workers many.bins.items)
    c.in_ok-put_head_part.ensures c.in_ok-put_numbers_part.ensures bins
