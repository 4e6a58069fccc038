use Rattle.std.proofs.Common.{◌≡◌, ℕ, length}
use Rattle.std.specs.Prelude.{slice_index}
use Rattle.boc_runs.specs.Rows.{IsLast}
use Rattle.boc_sweep.proofs.lasts.last_children.Given as goal

-- the last children among the rows so far
abbrev pub invariant-loop-row : goal.invariant-loop-row
invariant-loop-row l = record {
  whole : length l.lasts.items ≡ length l.rows;
  at : (p : ℕ) → IsLast l.rows l.row-index p (slice_index l.lasts.items p);
}
