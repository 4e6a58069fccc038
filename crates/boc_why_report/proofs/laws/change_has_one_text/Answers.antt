use Rattle.boc_why_report.proofs.OneText.{one_short_text}
use Rattle.boc_why_report.proofs.laws.change_has_one_text.Goals as goal

pub returns : goal.returns
returns c names other_names was now was_too now_too same before after = one_short_text names other_names same was now was_too now_too before after
