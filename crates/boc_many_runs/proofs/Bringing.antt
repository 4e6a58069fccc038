-- What remedies bring, one more at a time.
use Rattle.std.proofs.Common.{◌≡◌, ℕ, ◌+◌, ◌<◌, List, [], ◌∷◌, ◌++◌, length, take, get_or, arith, ap, sym, subst, ℤ, Some, None}
use Rattle.std.proofs.lemmas.List.{length-append}
use Rattle.boc_remedies.specs.declared.remedy.Remedy.{Remedy}
use Rattle.boc_remedies.specs.Questions.{Asked}
use Rattle.boc_remedies.proofs.Gathered.{take_one}
use Rattle.boc_many_runs.specs.Runs.{AreBroughtBy, Brings}
use Rattle.boc_many_runs.proofs.Rounds.{zip_more}

pub brought_none : (question : Asked) (all : List ℤ) → all ≡ [] → AreBroughtBy question [] all
brought_none question all none = record {
  long = ap length none;
  at = λ place remedy less ir il. absurd (let g : None ≡ Some remedy = ir in cc);
}

pub brought_more : (question : Asked) (remedies : List Remedy) (i : ℕ) (d r : Remedy) (all after : List ℤ) (less : ℤ) → i < length remedies
    → r ≡ get_or remedies i d → AreBroughtBy question (take i remedies) all → Brings question r less → after ≡ all ++ less ∷ []
    → AreBroughtBy question (take (i + 1) remedies) after
brought_more question remedies i d r all after less low at so own step =
    let front : take (i + 1) remedies ≡ take i remedies ++ r ∷ [] = take_one remedies i d r low at in
    let next : AreBroughtBy question (take i remedies ++ r ∷ []) (all ++ less ∷ []) = record {
      long = omega (arith, length-append all (less ∷ []), length-append (take i remedies) (r ∷ []), so.long);
      at = zip_more (λ (remedy : Remedy) (l : ℤ). Brings question remedy l) (take i remedies) all r less so.long so.at own;
    } in
    subst (λ (rs : List Remedy). AreBroughtBy question rs after) (sym front)
    (subst (λ (ls : List ℤ). AreBroughtBy question (take i remedies ++ r ∷ []) ls) (sym step) next)
