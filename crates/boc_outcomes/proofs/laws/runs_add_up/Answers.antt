use Rattle.boc_outcomes.proofs.AddingUp as adding
use Rattle.boc_outcomes.proofs.laws.runs_add_up.Goals as goal

pub returns : goal.returns
returns c = adding.runs_add_up
