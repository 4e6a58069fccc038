use Rattle.boc_cowns_report.proofs.OneText.{one_text}
use Rattle.boc_cowns_report.proofs.laws.cowns_have_one_text.Goals as goal

pub returns : goal.returns
returns c names other_names sharing most told other text other_text same alike a b =
    one_text names other_names same told other alike sharing most text other_text a b
