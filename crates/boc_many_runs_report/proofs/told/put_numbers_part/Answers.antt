use Rattle.std.proofs.Common.{codes}
use Rattle.boc_advice_report.proofs.Regroup.{put_three}
use Rattle.boc_many_runs_report.specs.ManyTexts.{numbers_table, single_line}
use Rattle.boc_many_runs_report.proofs.told.put_numbers_part.Goals as goal

pub returns : goal.returns
returns c =
    let many = c.args.many.now in
    put_three c.args.text.now.items (numbers_table c.args.workers many.spreads) (single_line many.single many.spreads.span) (codes "\n")
    c.in_ok-put_numbers.ensures c.in_ok-put_single.ensures c.in_ok-extend_from_slice.ensures.items
