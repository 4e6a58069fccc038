use Rattle.std.proofs.Common.{◌≡◌, ℕ, ◌<◌, ◌≤◌, length, get_or}
use Rattle.std.specs.Prelude.{vec_capacity}
use Rattle.boc_plans.specs.Plans.{end_of}
use Rattle.boc_busy.proofs.timed.ends_of.Given as goal

-- the rows so far have their ends
abbrev pub invariant-loop-row : goal.invariant-loop-row
invariant-loop-row l = record {
  room : length l.starts ≤ vec_capacity l.ends;
  so_many : length l.ends.items ≡ l.row;
  at : (k : ℕ) → k < l.row → get_or l.ends.items k 0 ≡ end_of l.rows l.starts k;
}
