-- The rows that a chain goes through.
use Rattle.std.specs.Prelude.{◌≡◌, ℕ, ◌+◌, ◌≤◌, nat_eq, if◌then◌else◌, List, [], ◌∷◌}
use Rattle.boc_plans.specs.declared.chain.ChainStep.{ChainStep}
use Rattle.boc_runs.specs.declared.rows.Row.{Row}

-- the weight of the first step, if that is of this row
abbrev pub weight_on : ℕ → List ChainStep → ℕ
weight_on row [] = 0
weight_on row (s ∷ steps) = if nat_eq s.row row then s.weight else 0

-- the steps after those of this row, where the first one may be of it
abbrev pub steps_after : ℕ → List ChainStep → List ChainStep
steps_after row [] = []
steps_after row (s ∷ steps) = if nat_eq s.row row then steps else s ∷ steps

-- The steps are of rows among these, which have the numbers from `row` on, in the order of their numbers, and none weighs more than the ticks of its row.
abbrev pub GoesThrough : ℕ → List Row → List ChainStep → Type 0
GoesThrough row [] steps = steps ≡ []
GoesThrough row (x ∷ rows) steps = (weight_on row steps ≤ x.ticks) × GoesThrough (row + 1) rows (steps_after row steps)

-- how many of the first ticks of each row the steps go through
abbrev pub through_from : ℕ → List Row → List ChainStep → List ℕ
through_from row [] steps = []
through_from row (x ∷ rows) steps = weight_on row steps ∷ through_from (row + 1) rows (steps_after row steps)
