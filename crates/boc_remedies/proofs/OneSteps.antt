-- One change after another is one list.
use Rattle.std.proofs.Common.{◌≡◌, ◌∙◌, ℕ, zero, suc, List, [], ◌∷◌, ◌++◌, length, ap, refl, subst, sym, Option, Some, None}
use Rattle.std.specs.Prelude.{option_map}
use Rattle.boc_runs.specs.declared.rows.Row.{Row}
use Rattle.boc_runs.specs.Rows.{IsRows}
use Rattle.boc_why.specs.Why.{SayTheSame}
use Rattle.boc_why.proofs.OneWhy.{one_why}
use Rattle.boc_remedies.specs.declared.candidates.Candidate.{Candidate}
use Rattle.boc_remedies.specs.declared.greedy_why.GreedyWhy.{GreedyWhy}
use Rattle.boc_remedies.specs.Questions.{Asked}
use Rattle.boc_remedies.specs.declared.remedy.Remedy.{Remedy}
use Rattle.boc_remedies.specs.Chains.{Known}
use Rattle.boc_remedies.specs.Ends.{AreAllEnds}
use Rattle.boc_remedies.specs.Remedies.{AreRowsAfter}
use Rattle.boc_remedies.specs.GreedyWhys.{SayTheSameIfAsked}
use Rattle.boc_remedies.specs.Steps.{AreSteps, AreStepsFrom, IsBestStep, best_taken, ends_now, of_rows, others}
use Rattle.boc_remedies.specs.Told.{paired}
use Rattle.boc_remedies.specs.Tried.{tried}
use Rattle.boc_remedies.proofs.OneChains.{one_asked, one_chains}
use Rattle.boc_remedies.proofs.OneEnds.{one_list_of_ends, one_rows_after}

one_end_asked : (greedy other : Option GreedyWhy) → SayTheSameIfAsked greedy other → option_map (λ g. g.end) greedy ≡ option_map (λ g. g.end) other
one_end_asked None None same = refl
one_end_asked None (Some other) same = absurd same
one_end_asked (Some why) None same = absurd same
one_end_asked (Some why) (Some other) same = ap (λ (end : ℕ). Some end) same.end

module _ (question : Asked) (hr : IsRows question.rows) (before : List Candidate) (step other : Option Candidate) (a : IsBestStep question before step)
    (b : IsBestStep question before other) where
  abbrev left_over : List Known → List Remedy
  left_over chains = others before (tried question.families chains)

  why_same : SayTheSame a.why b.why
  why_same = one_why question.rows question.sharing question.defs (length question.families) a.why b.why a.is_why b.is_why

  greedy_same : SayTheSameIfAsked a.greedy b.greedy
  greedy_same = one_asked question hr question.workers a.greedy b.greedy a.is_greedy b.is_greedy

  chains_same : a.chains ≡ b.chains
  chains_same = one_chains question a.why b.why a.greedy b.greedy a.chains b.chains hr a.is_why b.is_why a.is_greedy b.is_greedy a.chains_are b.chains_are

  left_same : a.left ≡ b.left
  left_same = one_list_of_ends question (left_over b.chains) a.left b.left
      (subst (λ (chains : List Known). AreAllEnds question (left_over chains) a.left) chains_same a.left_are) b.left_are

  now_same : ends_now a.why a.greedy ≡ ends_now b.why b.greedy
  now_same = λ i. record { span = why_same.span i; greedy = one_end_asked a.greedy b.greedy greedy_same i }

  one_best_step : step ≡ other
  one_best_step = a.is ∙ (λ i. best_taken (now_same i) (paired (left_over (chains_same i)) (left_same i))) ∙ sym b.is

none_or_some : (step : Candidate) → None ≡ Some step → ⊥
none_or_some step e = absurd cc

same_step : (step other : Candidate) → Some step ≡ Some other → step ≡ other
same_step step other e = cc

pub one_list_of_steps : (most : ℕ) (question : Asked) → IsRows question.rows → (before steps others : List Candidate)
    → AreStepsFrom question most before steps → AreStepsFrom question most before others → steps ≡ others
one_list_of_steps zero question hr before steps others a b = a ∙ sym b
one_list_of_steps (suc most) question hr before [] [] a b = refl
one_list_of_steps (suc most) question hr before [] (other ∷ others) a b =
    absurd (none_or_some other (one_best_step question hr before None (Some other) a b.1))
one_list_of_steps (suc most) question hr before (step ∷ steps) [] a b =
    absurd (none_or_some step (one_best_step question hr before None (Some step) b a.1))
one_list_of_steps (suc most) question hr before (step ∷ steps) (other ∷ others) a b =
    let same : step ≡ other = same_step step other (one_best_step question hr before (Some step) (Some other) a.1 b.1) in
    let rows : a.0 ≡ b.0 = one_rows_after question other.remedy a.0 b.0
    (subst (λ (own : Candidate). AreRowsAfter question own.remedy a.0) same a.2) b.2 in
    let further : AreStepsFrom (of_rows question b.0) most (before ++ other ∷ []) steps =
    subst (λ (own : Candidate). AreStepsFrom (of_rows question b.0) most (before ++ own ∷ []) steps) same
    (subst (λ (list : List Row). AreStepsFrom (of_rows question list) most (before ++ step ∷ []) steps) rows a.4) in
    let rest : steps ≡ others = one_list_of_steps most (of_rows question b.0) b.3 (before ++ other ∷ []) steps others further b.4 in
    λ i. same i ∷ rest i

pub one_steps : (question : Asked) (most : ℕ) (steps others : List Candidate) → IsRows question.rows → AreSteps question most steps
    → AreSteps question most others → steps ≡ others
one_steps question most steps others hr a b = one_list_of_steps most question hr [] steps others a b
