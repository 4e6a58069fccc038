-- The definition of the greedy part of a report tried on a plan.
use Rattle.std.proofs.Common.{◌≡◌, [], ◌∷◌, false, refl, codes}
use Rattle.std.specs.Fmt.{digits}
use Rattle.boc_report.specs.Texts.{greedy_text}

-- the greedy plan for two workers
pub text_of_greedy : greedy_text false 2 (0 ∷ 2 ∷ 4 ∷ 7 ∷ []) (4 ∷ 4 ∷ 7 ∷ 9 ∷ []) (0 ∷ 1 ∷ 0 ∷ 0 ∷ []) 9 14
    ≡ codes "greedy 2\n0 0 4 0\n1 2 4 1\n2 4 7 0\n3 7 9 0\nend 9 bound 14\n"
unfolding digits
text_of_greedy = refl
