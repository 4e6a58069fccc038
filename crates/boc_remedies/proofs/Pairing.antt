-- Remedies with what they leave, one after another.
use Rattle.std.proofs.Common.{◌≡◌, ◌+◌, ◌<◌, ℕ, List, [], ◌∷◌, ◌++◌, length, take, get_or, ap, refl, sym, ◌∙◌, arith}
use Rattle.std.proofs.lemmas.List.{length-take-le, take_more}
use Rattle.boc_remedies.specs.declared.candidates.Candidate.{Candidate}
use Rattle.boc_remedies.specs.declared.ends.Ends.{Ends}
use Rattle.boc_remedies.specs.declared.remedy.Remedy.{Remedy}
use Rattle.boc_remedies.specs.Told.{paired}

-- one more remedy with what it leaves
pub paired_more : (remedies : List Remedy) (left : List Ends) (remedy : Remedy) (d : Ends) → length remedies < length left
    → paired (remedies ++ remedy ∷ []) left ≡ paired remedies left ++ record { remedy = remedy; ends = get_or left (length remedies) d } ∷ []
paired_more [] [] remedy d low = absurd (omega (arith, low))
paired_more [] (ends ∷ left) remedy d low = refl
paired_more (r ∷ remedies) [] remedy d low = absurd (omega (arith, low))
paired_more (r ∷ remedies) (ends ∷ left) remedy d low =
    ap (λ (xs : List Candidate). record { remedy = r; ends = ends } ∷ xs) (paired_more remedies left remedy d (omega (arith, low)))

-- a step of the loop over remedies
pub paired_step : (remedies : List Remedy) (left : List Ends) (i : ℕ) (remedy copy : Remedy) (d : Ends) (all after : List Candidate) → i < length remedies
    → length left ≡ length remedies → remedy ≡ get_or remedies i remedy → copy ≡ remedy → all ≡ paired (take i remedies) left
    → after ≡ all ++ record { remedy = copy; ends = get_or left i d } ∷ [] → after ≡ paired (take (i + 1) remedies) left
paired_step remedies left i remedy copy d all after low whole at same is push =
    let long : length (take i remedies) ≡ i = length-take-le i remedies (omega (arith, low)) in
    let more : paired (take i remedies ++ copy ∷ []) left
    ≡ paired (take i remedies) left ++ record { remedy = copy; ends = get_or left (length (take i remedies)) d } ∷ [] =
    paired_more (take i remedies) left copy d (omega (arith, long, low, whole)) in
    let next : take (i + 1) remedies ≡ take i remedies ++ copy ∷ [] =
    take_more remedies i remedy low ∙ ap (λ (r : Remedy). take i remedies ++ r ∷ []) (sym at ∙ sym same) in
    push ∙ ap (λ (xs : List Candidate). xs ++ record { remedy = copy; ends = get_or left i d } ∷ []) is
    ∙ ap (λ (n : ℕ). paired (take i remedies) left ++ record { remedy = copy; ends = get_or left n d } ∷ []) (sym long) ∙ sym more
    ∙ ap (λ (xs : List Remedy). paired xs left) (sym next)
