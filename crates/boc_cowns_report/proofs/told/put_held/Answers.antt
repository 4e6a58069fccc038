use Rattle.std.proofs.Common.{◌++◌, ◌∙◌, ap, codes, decimal}
use Rattle.boc_cowns_report.proofs.Texts.{regroup_two}
use Rattle.boc_cowns_report.proofs.told.put_held.Goals as goal

pub returns : goal.returns
returns c =
    c.in_ok-put_number.ensures.ok ∙ (ap (λ text. text ++ decimal c.args.own.held) c.in_ok-extend_from_slice.ensures.items
    ∙ regroup_two c.args.text.now.items (codes "; busiest cown ") (decimal c.args.own.held))
