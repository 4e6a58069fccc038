-- The text of the ends that a program came to in many runs.
use Rattle.std.specs.Prelude.{◌≡◌, ℕ, List, ◌++◌, length, codes, decimal}
use Rattle.std.specs.List.{flat_map}
use Rattle.boc_program.specs.declared.cown.Cown.{Cown}
use Rattle.boc_program.specs.Programs.{cown_count}
use Rattle.boc_outcomes.specs.declared.bounds.Bounds.{Bounds}
use Rattle.boc_outcomes.specs.declared.tally.Outcome.{Outcome}
use Rattle.boc_outcomes.specs.declared.tally.Outcomes.{Outcomes}
use Rattle.boc_ends_report.specs.ValueTexts.{values_text}

-- the outcome has a value for each cown
abbrev pub HasAllValues : List Cown → Outcome → Type 0
HasAllValues cowns outcome = length outcome.values.items ≡ cown_count cowns

-- the line of how many runs there were
abbrev pub runs_line : ℕ → List ℕ
runs_line runs = codes "runs " ++ decimal runs ++ codes "\n"

-- what ends in the least and the greatest of some numbers
abbrev pub bounds_line : List ℕ → Bounds → List ℕ
bounds_line word bounds = word ++ decimal bounds.least ++ codes " " ++ decimal bounds.most ++ codes "\n"

-- the line of an outcome: how many runs ended so, the seed of the first of them, and the least and the greatest of their spans
abbrev pub outcome_line : Outcome → List ℕ
outcome_line outcome = codes "outcome " ++ decimal outcome.runs ++ codes " seed " ++ decimal outcome.seed ++ bounds_line (codes " span ") outcome.spans

-- an outcome: its line, and those of its values
abbrev pub outcome_text : List Cown → Outcome → List ℕ
outcome_text cowns outcome = outcome_line outcome ++ values_text cowns outcome.values.items

-- outcomes, one after the other
abbrev pub outcome_texts : List Cown → List Outcome → List ℕ
outcome_texts cowns outcomes = flat_map (outcome_text cowns) outcomes

-- all of it: how many runs there were, the least and the greatest number of rows and span of one, and the outcomes in their order
abbrev pub outcomes_text : List Cown → ℕ → Outcomes → List ℕ
outcomes_text cowns runs outcomes =
    runs_line runs ++ bounds_line (codes "rows ") outcomes.rows ++ bounds_line (codes "spans ") outcomes.spans
    ++ outcome_texts cowns outcomes.all.items
