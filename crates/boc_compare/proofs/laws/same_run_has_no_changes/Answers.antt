use Rattle.boc_compare.proofs.Turning.{same_pairs}
use Rattle.boc_compare.proofs.laws.same_run_has_no_changes.Goals as goal

pub returns : goal.returns
returns c = λ list names pairs apart are. same_pairs names list apart pairs are
