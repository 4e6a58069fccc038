use Rattle.boc_uses.proofs.Within.{uses_rise, uses_lie_within}
use Rattle.boc_uses.proofs.laws.uses_lie_within_ticks.Goals as goal

pub returns-clause-rise : goal.returns-clause-rise
returns-clause-rise c args inputs = uses_rise c.args.body.now args inputs

pub returns-clause-within : goal.returns-clause-within
returns-clause-within c args inputs = uses_lie_within c.args.body.now args inputs
