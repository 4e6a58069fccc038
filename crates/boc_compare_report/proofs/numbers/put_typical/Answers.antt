use Rattle.std.proofs.lemmas.Result.{on_ok_weaker}
use Rattle.boc_compare_report.proofs.Behind.{behind_both}
use Rattle.boc_compare_report.proofs.numbers.put_typical.Goals as goal

pub returns : goal.returns
returns c =
    let both = behind_both c.args.table.now _ _ _ _ c.in_ok-put_line.ensures c.in_ok-put_line-2.ensures in
    on_ok_weaker c.put_ends.result (behind_both c.args.table.now _ _ _ _ both) c.put_ends.ensures
