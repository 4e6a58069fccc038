use Rattle.boc_program.specs.declared.limits.TheConstants.{MOST_ROWS}
use Rattle.boc_why.proofs.WhyParts.{defs_below}
use Rattle.boc_why.proofs.why.shares_by_def.Goals as goal

pub shares_of-requires-clause-below : goal.shares_of-requires-clause-below
shares_of-requires-clause-below c = rw c.deref.ensures.value (defs_below MOST_ROWS c.args.defs.now c.args.steps.now c.in_ok-keys.keys.items
    c.requires.there c.requires.few_defs c.in_ok-keys.ensures)
