-- When some rows end, as they are and with remedies.
use Rattle.std.specs.Prelude.{◌≡◌, ℕ, List, length, Option, Some, None, slice_get}
use Rattle.std.specs.Option.{unwrap_or}
use Rattle.boc_runs.specs.declared.rows.Row.{Row}
use Rattle.boc_runs.specs.Rows.{IsRows}
use Rattle.boc_plans.specs.Greedy.{IsSpan}
use Rattle.boc_plans.specs.Seen.{seen}
use Rattle.boc_plans.specs.Sweeps.{IsGreedyEnd}
use Rattle.boc_remedies.specs.declared.ends.Ends.{Ends}
use Rattle.boc_remedies.specs.Questions.{Asked}
use Rattle.boc_remedies.specs.declared.remedy.Remedy.{Remedy}
use Rattle.boc_remedies.specs.Remedies.{AreRowsAfter}

-- the end of the greedy plan, where a number of workers is given
abbrev pub IsEndFor : List Row → Option ℕ → Option ℕ → Type 0
IsEndFor rows None greedy = greedy ≡ None
IsEndFor rows (Some p) None = ⊥
IsEndFor rows (Some p) (Some end) = IsGreedyEnd rows p end

-- the span of the rows, and the end of the greedy plan, where a number of workers is given
pub record AreEnds (rows : List Row) (workers : Option ℕ) (ends : Ends) : Type 0 where
  pub span : IsSpan rows ends.span
  pub greedy : IsEndFor rows workers ends.greedy

-- the end by which rows are judged: that of the greedy plan, where there is one, else the span
abbrev pub judged : Ends → ℕ
judged ends = unwrap_or ends.greedy ends.span

-- the ends of the rows with a remedy, which are rows of a record again, planned from nothing
pub record AreEndsAfter (question : Asked) (remedy : Remedy) (ends : Ends) : Type 0 where
  pub after : List Row
  pub changed : AreRowsAfter question remedy after
  pub shape : IsRows after
  pub are : AreEnds (seen question.sharing after) question.workers ends

-- for each remedy the ends of the rows with it
pub record AreAllEnds (question : Asked) (remedies : List Remedy) (all : List Ends) : Type 0 where
  pub whole : length all ≡ length remedies
  pub at : (k : ℕ) (remedy : Remedy) (ends : Ends) → slice_get remedies k ≡ Some remedy → slice_get all k ≡ Some ends → AreEndsAfter question remedy ends
