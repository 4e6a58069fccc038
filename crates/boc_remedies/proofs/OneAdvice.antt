-- Of some rows and their chains one advice is given.
use Rattle.std.proofs.Common.{◌≡◌, ◌∙◌, ℕ, List, [], ◌∷◌, refl, subst, sym}
use Rattle.boc_remedies.specs.declared.advice.Advice.{Advice}
use Rattle.boc_remedies.specs.declared.candidates.Candidate.{Candidate}
use Rattle.boc_remedies.specs.declared.ends.Ends.{Ends}
use Rattle.boc_remedies.specs.declared.looked_at.LookedAt.{LookedAt}
use Rattle.boc_remedies.specs.Questions.{Asked}
use Rattle.boc_remedies.specs.declared.together.Together.{Together}
use Rattle.boc_remedies.specs.Advice.{AreTogetherFor, IsAdvice, untold}
use Rattle.boc_remedies.specs.Chains.{Known}
use Rattle.boc_remedies.specs.Together.{AreTogether, best_sets}
use Rattle.boc_remedies.specs.Tried.{handed_families, tried}
use Rattle.boc_remedies.proofs.OneCandidates.{one_candidates}
use Rattle.boc_remedies.proofs.OneLookedAt.{one_looked_at}
use Rattle.boc_remedies.proofs.OneTogether.{one_list_of_lines}

one_together_for : (question : Asked) (span : ℕ) (candidates : List Candidate) (lines others : List Together)
    → AreTogetherFor question span candidates lines → AreTogetherFor question span candidates others → lines ≡ others
one_together_for question span candidates lines others a b =
    let looked : a.looked ≡ b.looked = one_looked_at question span a.looked b.looked a.looked_are b.looked_are in
    one_list_of_lines question (untold candidates (best_sets b.looked)) lines others
    (subst (λ (looked : List LookedAt). AreTogether question (untold candidates (best_sets looked)) lines) looked a.are) b.are

module _ (question : Asked) (chains : List Known) (now : Ends) (advice other : Advice) (a : IsAdvice question chains now advice)
    (b : IsAdvice question chains now other) where
  pub one_now : advice.now ≡ other.now
  one_now = a.now_are ∙ sym b.now_are

  pub one_list_told : advice.candidates.items ≡ other.candidates.items
  one_list_told = one_candidates question now (tried question.families chains) advice.candidates.items other.candidates.items a.candidates b.candidates

  pub one_list_together : advice.together.items ≡ other.together.items
  one_list_together = by (handed_families question.families chains) refl
    where
      by : (handed : List ℕ) → handed_families question.families chains ≡ handed → advice.together.items ≡ other.together.items
      by [] e = a.nothing e ∙ sym (b.nothing e)
      by (f ∷ handed) e =
          let some : handed_families question.families chains ≡ [] → ⊥ = λ none. absurd cc in
          one_together_for question now.span other.candidates.items advice.together.items other.together.items
          (subst (λ (told : List Candidate). AreTogetherFor question now.span told advice.together.items) one_list_told (a.several some)) (b.several some)
