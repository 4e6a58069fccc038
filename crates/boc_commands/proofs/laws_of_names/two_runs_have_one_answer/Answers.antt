use Rattle.boc_commands.proofs.OneCompared.{one_compare_answer, one_compare_of_records}
use Rattle.boc_commands.proofs.laws_of_names.two_runs_have_one_answer.Goals as goal

pub returns : goal.returns
returns c = record {
  runs = one_compare_answer;
  records = one_compare_of_records;
}
