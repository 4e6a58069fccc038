use Rattle.std.proofs.lemmas.Result.{on_ok_weaker}
use Rattle.boc_compare_report.proofs.Parts.{puts_defs}
use Rattle.boc_compare_report.proofs.told.put_defs.Goals as goal

pub returns : goal.returns
returns c =
    on_ok_weaker c.put_pairs.result
    (puts_defs c.args.own.now _ c.args.text.now.items _ _ _ _ _ _ _ _ _ c.def_heads-heads.ensures c.in_ok-push.ensures.items c.in_ok-put_chains.ensures
    c.deref.ensures.value c.deref-2.ensures.value c.deref-3.ensures.value c.deref-4.ensures.value c.deref-5.ensures.value c.deref-6.ensures.value)
    c.put_pairs.ensures
