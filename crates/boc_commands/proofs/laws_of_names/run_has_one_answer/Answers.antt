use Rattle.boc_commands.proofs.OneTold.{one_cowns_answer, one_why_answer}
use Rattle.boc_commands.proofs.laws_of_names.run_has_one_answer.Goals as goal

pub returns : goal.returns
returns c = record {
  why = one_why_answer;
  cowns = one_cowns_answer;
}
