use Rattle.boc_advice_report.proofs.OneText.{one_why_text}
use Rattle.boc_advice_report.proofs.laws.why_has_one_text.Goals as goal

pub returns : goal.returns
returns c names other_names sharing all told other text other_text same alike a b =
    one_why_text names other_names same sharing all told other alike text other_text a b
