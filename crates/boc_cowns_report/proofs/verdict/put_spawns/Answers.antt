use Rattle.std.proofs.Common.{◌++◌, ◌∙◌, ap, codes, decimal}
use Rattle.boc_cowns_report.proofs.Texts.{regroup_five}
use Rattle.boc_cowns_report.proofs.verdict.put_spawns.Goals as goal

pub returns : goal.returns
returns c =
    c.in_ok-extend_from_slice-3.ensures.items ∙ (ap (λ text. text ++ codes " ticks; spawn earlier, or do less") (c.in_ok-put_number-2.ensures.ok
    ∙ ap (λ text. text ++ decimal c.args.hot.now.span) (c.in_ok-extend_from_slice-2.ensures.items
    ∙ ap (λ text. text ++ codes " of ") (c.in_ok-put_number.ensures.ok
    ∙ ap (λ text. text ++ decimal c.args.hot.now.least.spawns) c.in_ok-extend_from_slice.ensures.items)))
    ∙ regroup_five c.args.text.now.items (codes "spawns: they alone need ") (decimal c.args.hot.now.least.spawns) (codes " of ")
    (decimal c.args.hot.now.span) (codes " ticks; spawn earlier, or do less"))
