use Rattle.std.proofs.Common.{◌++◌, ◌∙◌, ap, codes, decimal}
use Rattle.boc_order.specs.Least.{start_or_0}
use Rattle.boc_cowns_report.specs.CownsTexts.{part_text}
use Rattle.boc_cowns_report.proofs.Texts.{regroup}
use Rattle.boc_cowns_report.proofs.verdict.put_late.Goals as goal

pub returns : goal.returns
returns c =
    let number = rw c.held_from.ensures at c.in_ok-put_number.ensures.ok in
    c.in_ok-extend_from_slice-2.ensures.items
    ∙ (ap (λ text. text ++ codes "; spawn earlier, split it, or shorten what holds it") (number
    ∙ ap (λ text. text ++ decimal (start_or_0 c.args.own.from)) (c.in_ok-extend_from_slice.ensures.items
    ∙ ap (λ text. text ++ codes " ticks, none of them before tick ") c.in_ok-put_part.ensures))
    ∙ regroup c.args.text.now.items (part_text c.args.names.now c.args.hot.now c.args.own) (codes " ticks, none of them before tick ")
    (decimal (start_or_0 c.args.own.from)) (codes "; spawn earlier, split it, or shorten what holds it"))
