-- Steps, one after another.
use Rattle.std.proofs.Common.{◌≡◌, ◌+◌, ◌-◌, ◌<◌, ◌≤◌, ◌∙◌, ℕ, suc, List, [], ◌∷◌, ◌++◌, arith, subst, refl, sym, ap, length, Option, Some, None, append-nil}
use Rattle.std.proofs.lemmas.List.{append_assoc}
use Rattle.boc_runs.specs.declared.rows.Row.{Row}
use Rattle.boc_runs.specs.Rows.{IsRows}
use Rattle.boc_why.specs.declared.why.Why.{Why}
use Rattle.boc_why.specs.Why.{IsWhy}
use Rattle.boc_remedies.specs.declared.candidates.Candidate.{Candidate}
use Rattle.boc_remedies.specs.declared.ends.Ends.{Ends}
use Rattle.boc_remedies.specs.declared.greedy_why.GreedyWhy.{GreedyWhy}
use Rattle.boc_remedies.specs.Questions.{Asked}
use Rattle.boc_remedies.specs.declared.remedy.Remedy.{Remedy}
use Rattle.boc_remedies.specs.Chains.{AreChains, Known}
use Rattle.boc_remedies.specs.Ends.{AreAllEnds, AreEndsAfter}
use Rattle.boc_remedies.specs.Remedies.{AreRowsAfter}
use Rattle.boc_remedies.specs.Steps.{AreSteps, AreStepsFrom, IsBestStep, IsGreedyAsked, best_taken, ends_now, of_rows, others}
use Rattle.boc_remedies.specs.Told.{paired}
use Rattle.boc_remedies.specs.Tried.{tried}

-- ---- the best step

-- what is found for a step is the best one
pub best_from : (question : Asked) (before : List Candidate) (why : Why) (greedy : Option GreedyWhy) (chains : List Known)
    (all_tried left_over : List Remedy) (left : List Ends) (all : List Candidate) (now : Ends) (step : Option Candidate)
    → IsWhy question.rows question.sharing question.defs (length question.families) why → IsGreedyAsked question question.workers greedy
    → AreChains question.families why greedy chains → all_tried ≡ tried question.families chains → left_over ≡ others before all_tried
    → AreAllEnds question left_over left → all ≡ paired left_over left → now ≡ ends_now why greedy → step ≡ best_taken now all
    → IsBestStep question before step
best_from question before why greedy chains all_tried left_over left all now step is_why asked chains_are tried_are others_are left_are all_are now_is best =
    let e : left_over ≡ others before (tried question.families chains) = others_are ∙ ap (others before) tried_are in
    let pairs : all ≡ paired (others before (tried question.families chains)) left = all_are ∙ ap (λ (remedies : List Remedy). paired remedies left) e in
    record {
      why = why;
      is_why = is_why;
      greedy = greedy;
      is_greedy = asked;
      chains = chains;
      chains_are = chains_are;
      left = left;
      left_are = subst (λ (remedies : List Remedy). AreAllEnds question remedies left) e left_are;
      is = best ∙ (λ i. best_taken (now_is i) (pairs i));
    }

-- ---- steps that were made

-- the steps that were made lead to these rows: what the best steps from there are continues them
abbrev pub LeadTo : Asked → List Row → ℕ → List Candidate → Type 0
LeadTo question rows made steps = (most : ℕ) (further : List Candidate) → AreStepsFrom (of_rows question rows) most steps further
    → AreStepsFrom question (made + most) [] (steps ++ further)

-- before the first step
pub lead_first : (question : Asked) (rows : List Row) → rows ≡ question.rows → LeadTo question rows 0 []
lead_first question rows same = λ most further are. (
    let e : most ≡ 0 + most = omega arith in
    subst (λ (n : ℕ). AreStepsFrom question n [] further) e (subst (λ (list : List Row). AreStepsFrom (of_rows question list) most [] further) same are))

module _ (question : Asked) (made : ℕ) (steps : List Candidate) (there : List Row) (lead : LeadTo question there made steps) where
  -- one more step
  pub lead_on : (best : Candidate) (after : List Row) (more : List Candidate) → IsBestStep (record question { rows = there }) steps (Some best)
      → AreRowsAfter (record question { rows = there }) best.remedy after → IsRows after → more ≡ steps ++ best ∷ [] → LeadTo question after (made + 1) more
  lead_on best after more is changed shape push = λ most further are. (
      let from : AreStepsFrom (of_rows question after) most (steps ++ best ∷ []) further =
      subst (λ (list : List Candidate). AreStepsFrom (of_rows question after) most list further) push are in
      let got : AreStepsFrom question (made + suc most) [] (steps ++ best ∷ further) =
      lead (suc most) (best ∷ further) (after, is, changed, shape, from) in
      let e : made + suc most ≡ (made + 1) + most = omega arith in
      let same : steps ++ best ∷ further ≡ more ++ further =
      sym (ap (λ (list : List Candidate). list ++ further) push ∙ append_assoc steps (best ∷ []) further) in
      subst (λ (n : ℕ). AreStepsFrom question n [] (more ++ further)) e
      (subst (λ (list : List Candidate). AreStepsFrom question (made + suc most) [] list) same got))

  -- none brings anything after the last one
  pub lead_ends : (most : ℕ) → made < most → IsBestStep (record question { rows = there }) steps None → AreSteps question most steps
  lead_ends most low none =
      let left : ℕ = most - (made + 1) in
      let got : AreStepsFrom question (made + suc left) [] (steps ++ []) = lead (suc left) [] none in
      let e : made + suc left ≡ most = omega (arith, low) in
      subst (λ (n : ℕ). AreStepsFrom question n [] steps) e
      (subst (λ (list : List Candidate). AreStepsFrom question (made + suc left) [] list) (append-nil steps) got)

-- so many were made
pub lead_all : (question : Asked) (rows : List Row) (made most : ℕ) (steps : List Candidate) → LeadTo question rows made steps → made ≤ most → most ≤ made
    → AreSteps question most steps
lead_all question rows made most steps lead low high =
    let got : AreStepsFrom question (made + 0) [] (steps ++ []) = lead 0 [] refl in
    let e : made + 0 ≡ most = omega (arith, low, high) in
    subst (λ (n : ℕ). AreStepsFrom question n [] steps) e
    (subst (λ (list : List Candidate). AreStepsFrom question (made + 0) [] list) (append-nil steps) got)
