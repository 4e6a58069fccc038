use Rattle.boc_all_ends_report.proofs.OneText.{one_text}
use Rattle.boc_all_ends_report.proofs.laws.whole_searches_tell_one_text.Goals as goal

pub returns : goal.returns
returns c = λ p most other cowns a b is also whole too. one_text p most other cowns a b is also whole too
