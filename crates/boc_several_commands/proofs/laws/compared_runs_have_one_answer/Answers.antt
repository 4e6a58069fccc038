use Rattle.boc_several_commands.proofs.OneRuns.{one_compare_runs}
use Rattle.boc_several_commands.proofs.laws.compared_runs_have_one_answer.Goals as goal

pub returns : goal.returns
returns c = one_compare_runs
