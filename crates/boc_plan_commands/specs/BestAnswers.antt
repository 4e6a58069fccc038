-- What `sweep --best` answers.
use Rattle.std.specs.Prelude.{◌≡◌, ◌+◌, ◌-◌, ℕ, List, [], ◌∷◌, ◌++◌, Some, cond, nat_lt, take, codes, decimal}
use Rattle.boc_runs.specs.declared.rows.Row.{Row}
use Rattle.boc_runs.specs.Records.{Recorded}
use Rattle.boc_plans.specs.Greedy.{IsSpan}
use Rattle.boc_plans.specs.Seen.{seen}
use Rattle.boc_plans.specs.Sweeps.{IsGreedyEnd}
use Rattle.boc_plans.specs.declared.sharing.Sharing.{Sharing}
use Rattle.boc_plans.specs.declared.sweep.Sweep.{Sweep}
use Rattle.boc_plans.specs.declared.sweep.Sweep.TheVariants.{Ticks, Cowns}
use Rattle.boc_record.specs.RecordTexts.{IsTextOf}
use Rattle.boc_why.specs.Ranking.{AreRanked}
use Rattle.boc_why.specs.declared.ranking.Placed.{Placed}
use Rattle.boc_run_commands.specs.Answers.{AreSwept, first_of}

-- ---- what is told

-- by how much an end is sooner than it was; with a minus sign, by how much it is later
abbrev pub gain_text : ℕ → ℕ → List ℕ
gain_text was end = cond (nat_lt was end) (codes "-" ++ decimal (end - was)) (decimal (was - end))

-- the line of a row or a cown: its number, the end that goes with it, and by how much that is sooner than it was
abbrev pub best_line : ℕ → ℕ → ℕ → List ℕ
best_line was number end = decimal number ++ codes " " ++ decimal end ++ codes " " ++ gain_text was end ++ codes "\n"

-- the same without its end
abbrev pub gains_text : ℕ → ℕ → ℕ → List ℕ
gains_text was number end = decimal number ++ codes " " ++ decimal end ++ codes " " ++ gain_text was end

-- the lines of such ends, by their places behind the first number
abbrev pub best_lines : ℕ → ℕ → List Placed → List ℕ
best_lines was first [] = []
best_lines was first (p ∷ placed) = best_line was (first + p.place) p.span ++ best_lines was first placed

-- the first ones, so many at the most, of all ends, the soonest first and of equal ones the one with the least number
pub record AreBest (ends : List ℕ) (most : ℕ) (best : List Placed) : Type 0 where
  pub all : List Placed
  pub ranked : AreRanked ends all
  pub first_are : best ≡ take most all

-- where the plan of a sweep ends as it is: the earliest one at the span, or the greedy one for the number of workers that was asked for
abbrev pub IsUnswept : List Row → Sweep → ℕ → Type 0
IsUnswept rows (Ticks (Some p)) was = IsGreedyEnd rows p was
IsUnswept rows (Cowns (Some p)) was = IsGreedyEnd rows p was
IsUnswept rows over was = IsSpan rows was

-- ---- the command

-- the input is the text of a record, and the output tells the best of the ends of a sweep over its rows, as they are seen, so many at the most
pub record IsBestAnswer (sharing : Sharing) (over : Sweep) (most : ℕ) (input output : List ℕ) : Type 0 where
  pub recorded : Recorded
  pub spells : IsTextOf input recorded
  pub ends : List ℕ
  pub sweep : AreSwept (seen sharing recorded.rows) recorded.cowns over ends
  pub was : ℕ
  pub was_is : IsUnswept (seen sharing recorded.rows) over was
  pub best : List Placed
  pub best_are : AreBest ends most best
  pub text : output ≡ best_lines was (first_of over) best
