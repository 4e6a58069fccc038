use Rattle.std.proofs.Common.{◌∙◌, ap, take_all}
use Rattle.boc_plan_commands.specs.SweepAnswers.{lines_text}
use Rattle.boc_plan_commands.proofs.SweptLines.{lines_more}
use Rattle.boc_plan_commands.proofs.swept_run.lines_text.Goals as goal

pub loop-index-preserved : goal.loop-index-preserved
loop-index-preserved c =
    lines_more c.args.first c.from.result _ c.args.ends.now c.loop-index.index _ c.loop-index.text.items c.put_end.new.text.items
    c.loop-index-test.true c.loop-index.invariant c.from.ensures c.in_ok-put_end.ensures

pub returns : goal.returns
returns c = c.loop-index.invariant ∙ ap (lines_text c.args.first _) (take_all c.loop-index.index c.args.ends.now c.loop-index-test.false)
