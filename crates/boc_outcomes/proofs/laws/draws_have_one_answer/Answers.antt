use Rattle.boc_outcomes.proofs.OneSample.{one_list, same_outcomes, runs_are_all, outcomes_or_full}
use Rattle.boc_outcomes.proofs.laws.draws_have_one_answer.Goals as goal

pub returns : goal.returns
returns c = record { samples = one_list; outcomes = same_outcomes; runs = runs_are_all; either = outcomes_or_full }
