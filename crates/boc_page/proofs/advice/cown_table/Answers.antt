use Rattle.std.proofs.Common.{arith}
use Rattle.std.proofs.lemmas.Grind.{common_steps}
use Rattle.boc_page.proofs.Places.{lines_more}
use Rattle.boc_page.specs.Advice.{cown_line}
use Rattle.boc_page.proofs.advice.cown_table.Goals as goal

pub loop-cown-preserved : goal.loop-cown-preserved
loop-cown-preserved c = let hot = c.args.hot.now in
    grind (arith, common_steps, lines_more (cown_line hot.span hot.cowns.items) c.loop-cown.cown)
