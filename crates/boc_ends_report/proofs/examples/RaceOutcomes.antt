-- The definition of the text of outcomes tried on one of a program with a cown and an array.
use Rattle.std.proofs.Common.{◌≡◌, ℕ, List, [], ◌∷◌, ◌++◌, Some, None, ap, arith, codes, decimal, length, pos}
use Rattle.std.specs.Fmt.{digits}
use Rattle.boc_program.specs.declared.cown.Cown.{Cown}
use Rattle.boc_outcomes.specs.declared.bounds.Bounds.{Bounds}
use Rattle.boc_outcomes.specs.declared.tally.Outcome.{Outcome}
use Rattle.boc_outcomes.specs.declared.tally.Outcomes.{Outcomes}
use Rattle.boc_ends_report.specs.OutcomeTexts.{HasAllValues, bounds_line, outcome_text, outcome_texts, outcomes_text, runs_line}
use Rattle.boc_ends_report.specs.ValueTexts.{values_text}

abbrev cowns : List Cown
cowns = (record { name = codes "a"; size = None; initial = pos 0 }) ∷ (record { name = codes "b"; size = Some 2; initial = pos 0 }) ∷ []

abbrev between : ℕ → ℕ → Bounds
between least most = record { least = least; most = most }

-- an outcome with these numbers
text_of_one : (o : Outcome) → o.runs ≡ 612 → o.seed ≡ 7 → o.spans ≡ between 12 16 → o.values.items ≡ pos 10 ∷ pos 1 ∷ pos 2 ∷ []
    → outcome_text cowns o ≡ codes "outcome 612 seed 7 span 12 16\na 10\nb[0] 1\nb[1] 2\n"
unfolding digits
text_of_one o runs seed spans values = λ i.
    (codes "outcome " ++ decimal (runs i) ++ codes " seed " ++ decimal (seed i) ++ bounds_line (codes " span ") (spans i)) ++ values_text cowns (values i)

-- what stands above outcomes
text_above : (o : Outcomes) → o.rows ≡ between 5 6 → o.spans ≡ between 12 16 → o.all.items ≡ []
    → outcomes_text cowns 1000 o ≡ codes "runs 1000\nrows 5 6\nspans 12 16\n"
unfolding digits
text_above o rows spans none = λ i.
    runs_line 1000 ++ bounds_line (codes "rows ") (rows i) ++ bounds_line (codes "spans ") (spans i) ++ outcome_texts cowns (none i)

-- a value fewer are not all
too_few : (o : Outcome) → o.values.items ≡ pos 10 ∷ pos 1 ∷ [] → HasAllValues cowns o → ⊥
too_few o values all = let two : length o.values.items ≡ 2 = ap length values in omega (arith, two, all)
