use Rattle.std.proofs.Common.{◌≡◌, ℕ, ◌<◌, ◌≤◌, length}
use Rattle.std.specs.Prelude.{slice_index, vec_capacity}
use Rattle.boc_runs.specs.Rows.{ticks_of}
use Rattle.boc_greedy.specs.Families.{children_of, times_of}
use Rattle.boc_greedy.proofs.Following.{Found}
use Rattle.boc_greedy.proofs.children.family_of.Given as goal

-- so far each row only ends
abbrev pub invariant-loop-row : goal.invariant-loop-row
invariant-loop-row l = record {
  room : l.count ≤ vec_capacity l.first;
  whole : length l.first.items ≡ l.row;
  childless : (a : ℕ) → a < l.row → slice_index (children_of l.first.items) a ≡ l.none;
  ends : (a : ℕ) → a < l.row → slice_index (times_of l.first.items) a ≡ ticks_of l.rows a;
}

-- the children from this row on are found
abbrev pub invariant-loop-row-2 : goal.invariant-loop-row-2
invariant-loop-row-2 l = Found l.rows (children_of l.first.items) (times_of l.first.items) (children_of l.next.items) (times_of l.next.items) l.row

abbrev pub decreases-loop-row-2 : goal.decreases-loop-row-2
decreases-loop-row-2 l = l.row
