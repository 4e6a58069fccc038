use Rattle.std.proofs.Common.{◌≡◌, ℕ, ◌+◌, ◌<◌, ◌≤◌, length}
use Rattle.std.specs.Prelude.{slice_index}
use Rattle.boc_runs.specs.Rows.{parent_of}
use Rattle.boc_runs.specs.Siblings.{IsNextChild}
use Rattle.boc_runs.proofs.siblings.first_children.Given as goal

-- the first children among the rows from this one on, and their younger siblings
abbrev pub invariant-loop-row : goal.invariant-loop-row
invariant-loop-row l = record {
  within : l.row ≤ length l.rows;
  firsts_whole : length l.firsts.items ≡ length l.rows;
  youngers_whole : length l.youngers.items ≡ length l.rows;
  first : (p : ℕ) → p < length l.rows → IsNextChild l.rows p l.row (slice_index l.firsts.items p);
  younger : (r : ℕ) → l.row ≤ r → r < length l.rows → IsNextChild l.rows (parent_of l.rows r) (r + 1) (slice_index l.youngers.items r);
}

abbrev pub decreases-loop-row : goal.decreases-loop-row
decreases-loop-row l = l.row
