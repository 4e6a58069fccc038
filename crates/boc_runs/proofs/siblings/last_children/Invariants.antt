use Rattle.std.proofs.Common.{◌≡◌, ℕ, ◌<◌, length}
use Rattle.std.specs.Prelude.{slice_index}
use Rattle.boc_runs.specs.Rows.{parent_of}
use Rattle.boc_runs.specs.Siblings.{IsLastChild}
use Rattle.boc_runs.proofs.siblings.last_children.Given as goal

-- the last children among the rows so far, and their elder siblings
abbrev pub invariant-loop-row : goal.invariant-loop-row
invariant-loop-row l = record {
  lasts_whole : length l.lasts.items ≡ length l.rows;
  elders_whole : length l.elders.items ≡ length l.rows;
  last : (p : ℕ) → IsLastChild l.rows p l.row (slice_index l.lasts.items p);
  elder : (r : ℕ) → r < l.row → IsLastChild l.rows (parent_of l.rows r) r (slice_index l.elders.items r);
}
