use Rattle.std.proofs.lemmas.Result.{on_ok_weaker}
use Rattle.boc_compare_report.proofs.Parts.{puts_families}
use Rattle.boc_compare_report.proofs.told.put_families.Goals as goal

pub returns : goal.returns
returns c =
    on_ok_weaker c.put_pairs.result
    (puts_families c.args.own.now _ c.args.text.now.items _ _ _ _ _ c.cown_heads-heads.ensures c.deref.ensures.value c.deref-2.ensures.value
    c.deref-3.ensures.value c.deref-4.ensures.value) c.put_pairs.ensures
