use Rattle.std.proofs.Common.{◌++◌, ◌∙◌, ap, codes, decimal}
use Rattle.boc_why_report.proofs.Regroup.{regroup_three}
use Rattle.boc_why_report.proofs.told.put_tick.Goals as goal

pub returns : goal.returns
returns c =
    c.in_ok-extend_from_slice-2.ensures.items ∙ ap (λ text. text ++ codes " on") (c.in_ok-put_number.ensures.ok
    ∙ ap (λ text. text ++ decimal c.args.tick) c.in_ok-extend_from_slice.ensures.items)
    ∙ regroup_three c.args.text.now.items (codes ", from tick ") (decimal c.args.tick) (codes " on")
