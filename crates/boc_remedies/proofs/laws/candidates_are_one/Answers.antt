use Rattle.boc_remedies.proofs.OneCandidates.{one_candidates}
use Rattle.boc_remedies.proofs.laws.candidates_are_one.Goals as goal

pub returns : goal.returns
returns c = λ question now tried candidates others hr a b. one_candidates question now tried candidates others a b
