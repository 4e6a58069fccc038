use Rattle.boc_compare_report.proofs.OneText.{one_compare_text}
use Rattle.boc_compare_report.proofs.laws.two_runs_have_one_text.Goals as goal

pub returns : goal.returns
returns c own other text other_text alike a b = one_compare_text own other alike text other_text a b
