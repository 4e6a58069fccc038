use Rattle.boc_ends_report.proofs.OneText.{one_text}
use Rattle.boc_ends_report.proofs.laws.outcomes_have_one_text.Goals as goal

pub returns : goal.returns
returns c = λ cowns runs a b same. one_text cowns runs a b same
