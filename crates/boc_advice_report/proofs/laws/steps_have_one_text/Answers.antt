use Rattle.boc_advice_report.proofs.OneText.{one_steps_text}
use Rattle.boc_advice_report.proofs.laws.steps_have_one_text.Goals as goal

pub returns : goal.returns
returns c names other_names told other text other_text same alike a b = one_steps_text names other_names same told other text other_text alike a b
