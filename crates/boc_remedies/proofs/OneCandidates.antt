-- There is one list of candidates of what is tried.
use Rattle.std.proofs.Common.{◌≡◌, ◌∙◌, List, ap, sym}
use Rattle.boc_remedies.specs.declared.candidates.Candidate.{Candidate}
use Rattle.boc_remedies.specs.declared.ends.Ends.{Ends}
use Rattle.boc_remedies.specs.Questions.{Asked}
use Rattle.boc_remedies.specs.declared.remedy.Remedy.{Remedy}
use Rattle.boc_remedies.specs.Told.{AreCandidates, paired, told}
use Rattle.boc_remedies.proofs.OneEnds.{one_list_of_ends}

pub one_candidates : (question : Asked) (now : Ends) (tried : List Remedy) (candidates others : List Candidate)
    → AreCandidates question now tried candidates → AreCandidates question now tried others → candidates ≡ others
one_candidates question now tried candidates others a b =
    a.are ∙ ap (λ (left : List Ends). told now (paired tried left)) (one_list_of_ends question tried a.left b.left a.left_are b.left_are) ∙ sym b.are
