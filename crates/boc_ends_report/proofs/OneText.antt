-- Outcomes that are the same have one text.
use Rattle.std.proofs.Common.{◌≡◌, ℕ, zero, suc, List, [], ◌∷◌, ◌++◌, length, Some, refl, arith}
use Rattle.std.specs.Prelude.{codes, decimal, slice_get}
use Rattle.boc_program.specs.declared.cown.Cown.{Cown}
use Rattle.boc_outcomes.specs.declared.tally.Outcome.{Outcome}
use Rattle.boc_outcomes.specs.declared.tally.Outcomes.{Outcomes}
use Rattle.boc_outcomes.specs.Tallies.{AreSame, IsSame}
use Rattle.boc_ends_report.specs.OutcomeTexts.{bounds_line, outcome_text, outcome_texts, outcomes_text, runs_line}
use Rattle.boc_ends_report.specs.ValueTexts.{values_text}

-- outcomes that are the same
one_outcome : (cowns : List Cown) (a b : Outcome) → IsSame a b → outcome_text cowns a ≡ outcome_text cowns b
one_outcome cowns a b same = λ i.
    (codes "outcome " ++ decimal (same.runs i) ++ codes " seed " ++ decimal (same.seed i) ++ bounds_line (codes " span ") (same.spans i))
    ++ values_text cowns (same.values i)

-- and lists of them
outcome_by_outcome : (cowns : List Cown) (xs ys : List Outcome) → length xs ≡ length ys
    → ((i : ℕ) (x y : Outcome) → slice_get xs i ≡ Some x → slice_get ys i ≡ Some y → IsSame x y) → outcome_texts cowns xs ≡ outcome_texts cowns ys
outcome_by_outcome cowns [] [] many each = refl
outcome_by_outcome cowns [] (y ∷ ys) many each = absurd (omega (arith, many))
outcome_by_outcome cowns (x ∷ xs) [] many each = absurd (omega (arith, many))
outcome_by_outcome cowns (x ∷ xs) (y ∷ ys) many each =
    let first : outcome_text cowns x ≡ outcome_text cowns y = one_outcome cowns x y (each zero x y refl refl) in
    let others : outcome_texts cowns xs ≡ outcome_texts cowns ys =
    outcome_by_outcome cowns xs ys (omega (arith, many)) (λ i a b ia ib. each (suc i) a b ia ib) in
    λ i. first i ++ others i

pub one_text : (cowns : List Cown) (runs : ℕ) (a b : Outcomes) → AreSame a b → outcomes_text cowns runs a ≡ outcomes_text cowns runs b
one_text cowns runs a b same =
    let texts : outcome_texts cowns a.all.items ≡ outcome_texts cowns b.all.items =
    outcome_by_outcome cowns a.all.items b.all.items same.many same.each in
    λ i. runs_line runs ++ bounds_line (codes "rows ") (same.rows i) ++ bounds_line (codes "spans ") (same.spans i) ++ texts i
