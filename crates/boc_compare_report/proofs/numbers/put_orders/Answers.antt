use Rattle.std.proofs.lemmas.Result.{on_ok_weaker}
use Rattle.boc_compare_report.proofs.Behind.{behind_both}
use Rattle.boc_compare_report.proofs.numbers.put_orders.Goals as goal

pub returns : goal.returns
returns c = on_ok_weaker c.put_line-2.result (behind_both c.args.table.now _ _ _ _ c.in_ok-put_line.ensures) c.put_line-2.ensures
