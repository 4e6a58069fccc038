use Rattle.boc_several_commands.proofs.OneRuns.{one_runs_in, one_why_runs}
use Rattle.boc_several_commands.proofs.laws.runs_have_one_answer.Goals as goal

pub returns : goal.returns
returns c = record {
  said = λ asked input many other output others a b. one_runs_in asked input many other output others a b;
  answered = one_why_runs;
}
