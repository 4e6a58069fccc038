-- What is asked of some rows.
use Rattle.std.specs.Prelude.{ℕ, List, Option}
use Rattle.boc_runs.specs.declared.rows.Row.{Row}
use Rattle.boc_plans.specs.declared.sharing.Sharing.{Sharing}
use Rattle.boc_remedies.specs.declared.question.Question.{Question}

-- some rows, the def of each, the family of each cown, how rows share cowns in plans, and for how many workers greedy plans are made, if for any
pub record Asked : Type 0 where
  pub rows : List Row
  pub defs : List ℕ
  pub families : List ℕ
  pub sharing : Sharing
  pub workers : Option ℕ

-- what a question asks, wherever its lists stand
abbrev pub asked : Question → Asked
asked question = record {
  rows = question.rows.now;
  defs = question.defs.now;
  families = question.families.now;
  sharing = question.sharing;
  workers = question.workers;
}
