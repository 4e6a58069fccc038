use Rattle.boc_commands.proofs.OneAnswer.{one_report}
use Rattle.boc_commands.proofs.laws.rows_have_one_report.Goals as goal

pub returns : goal.returns
returns c = λ rows asked output other hr one two. one_report rows hr asked output other one two
