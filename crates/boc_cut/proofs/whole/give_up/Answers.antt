use Rattle.boc_cut.proofs.whole.give_up.Goals as goal

pub returns-clause-table : goal.returns-clause-table
returns-clause-table c = λ text ends all s. c.in_ok-step.ensures.table text ends (c.in_ok-replay.ensures.table text all s)
