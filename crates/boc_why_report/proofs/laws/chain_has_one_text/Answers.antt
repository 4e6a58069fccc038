use Rattle.boc_why_report.proofs.OneText.{one_chain}
use Rattle.boc_why_report.proofs.laws.chain_has_one_text.Goals as goal

pub returns : goal.returns
returns c names other_names all why other same alike = one_chain names other_names same why other alike all
