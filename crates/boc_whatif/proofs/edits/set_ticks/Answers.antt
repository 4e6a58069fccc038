use Rattle.boc_whatif.proofs.Changing.{lasts_edited}
use Rattle.boc_whatif.proofs.edits.set_ticks.Goals as goal

pub returns-else-ticks-gt-MOST_TICKS-clause-lasts : goal.returns-else-ticks-gt-MOST_TICKS-clause-lasts
returns-else-ticks-gt-MOST_TICKS-clause-lasts c = rw c.set_ticks.ensures (lasts_edited c.args.rows.now c.args.lasts.now _ _ c.requires.lasts)
