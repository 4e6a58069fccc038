use Rattle.std.proofs.Common.{◌≡◌, ◌++◌, OnOk, subst}
use Rattle.boc_names.specs.Names.{Text}
use Rattle.boc_advice_report.proofs.Firsts.{by_first}
use Rattle.boc_advice_report.proofs.together.put_together.Goals as goal

pub returns-in-len1-up : goal.returns-in-len1-up
returns-in-len1-up c =
    subst (λ (told : Text). OnOk c.put_sets_table.result (c.put_sets_table.new.text.items ≡ c.args.text.now.items ++ told))
    (by_first c.args.names.now c.args.together.now c.first-item.result c.in-len1-up.len_at_least c.first-item.is) c.put_sets_table.ensures
