use Rattle.std.proofs.Common.{◌++◌, ◌∙◌, ap, codes, decimal}
use Rattle.boc_cowns_report.proofs.Texts.{regroup_three}
use Rattle.boc_cowns_report.proofs.told.put_many.Goals as goal

pub returns : goal.returns
returns c =
    c.in_ok-extend_from_slice-2.ensures.items ∙ (ap (λ text. text ++ codes " more cowns\n") (c.in_ok-put_number.ensures.ok
    ∙ ap (λ text. text ++ decimal c.args.count) c.in_ok-extend_from_slice.ensures.items)
    ∙ regroup_three c.args.text.now.items (codes ".. and ") (decimal c.args.count) (codes " more cowns\n"))
