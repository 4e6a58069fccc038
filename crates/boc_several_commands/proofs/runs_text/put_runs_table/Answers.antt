use Rattle.std.proofs.Common.{◌++◌, ◌∙◌}
use Rattle.std.proofs.lemmas.Result.{on_ok_weaker}
use Rattle.boc_table.specs.Tables.{table_text}
use Rattle.boc_several_commands.proofs.runs_text.put_runs_table.Goals as goal

pub returns : goal.returns
returns c =
    on_ok_weaker c.put_table.result
    (λ put. put ∙ (λ i. c.args.text.now.items ++ table_text (c.in_ok-table.ensures.sides i) (c.in_ok-table.ensures.lines i))) c.put_table.ensures
