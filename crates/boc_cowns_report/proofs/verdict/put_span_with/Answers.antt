use Rattle.std.proofs.Common.{◌++◌, ◌∙◌, ap, codes, decimal}
use Rattle.boc_cowns_report.specs.CownsTexts.{readers_text}
use Rattle.boc_cowns_report.proofs.Texts.{regroup}
use Rattle.boc_cowns_report.proofs.verdict.put_span_with.Goals as goal

pub returns : goal.returns
returns c =
    let readers = rw c.deref.ensures.value at c.in_ok-put_readers.ensures in
    c.in_ok-extend_from_slice-2.ensures.items ∙ (ap (λ text. text ++ codes "\n") (readers
    ∙ ap (λ text. text ++ readers_text c.args.names.now c.args.hot.now.cowns.items) (c.in_ok-put_number.ensures.ok
    ∙ ap (λ text. text ++ decimal c.args.hot.now.shared) c.in_ok-extend_from_slice.ensures.items))
    ∙ regroup c.args.text.now.items (codes "with --shared-reads the span is ") (decimal c.args.hot.now.shared)
    (readers_text c.args.names.now c.args.hot.now.cowns.items) (codes "\n"))
