use Rattle.boc_compare_report.proofs.Parts.{compare_parts}
use Rattle.boc_compare_report.proofs.told.compare_text.Goals as goal

pub returns : goal.returns
returns c =
    compare_parts c.args.own.now _ _ _ _ _ _ _ _ c.new-text.ensures.items c.tells_typical-typical.ensures c.in_ok-table.ensures.sides
    c.in_ok-table.ensures.lines c.in_ok-put_table.ensures c.in_ok-put_named.ensures c.in_ok-put_cowns.ensures c.in_ok-put_verdict.ensures
