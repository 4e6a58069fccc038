use Rattle.boc_page.proofs.OneText.{one_text}
use Rattle.boc_page.proofs.laws.block_has_one_text.Goals as goal

pub returns : goal.returns
returns c block source text other a b = one_text block source text other a b
