use Rattle.boc_several_commands.proofs.RunsParts.{runs_parts}
use Rattle.boc_several_commands.proofs.runs_text.runs_text.Goals as goal

pub returns : goal.returns
returns c =
    runs_parts c.args.told.now _ _ _ _ c.new-text.ensures.items c.in_ok-put_head.ensures c.in_ok-put_runs_table.ensures c.in_ok-put_last.ensures
