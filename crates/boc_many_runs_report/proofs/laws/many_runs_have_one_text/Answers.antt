use Rattle.boc_many_runs_report.proofs.OneText.{one_many_text}
use Rattle.boc_many_runs_report.proofs.laws.many_runs_have_one_text.Goals as goal

pub returns : goal.returns
returns c names other_names told many other text other_text same alike a b = one_many_text names other_names same told many other text other_text alike a b
