use Rattle.std.proofs.Common.{◌≡◌, ◌≤◌, ◌<◌, ℕ, length}
use Rattle.std.specs.Prelude.{slice_index, vec_capacity}
use Rattle.boc_runs.specs.Rows.{IsLast, parent_of}
use Rattle.boc_sweep.proofs.spawns.elder_offsets.Given as goal

-- the last children among the rows so far, and what they were at each of these rows
abbrev pub invariant-loop-row : goal.invariant-loop-row
invariant-loop-row l = record {
  lasts_whole : length l.lasts.items ≡ length l.rows;
  last : (p : ℕ) → IsLast l.rows l.row p (slice_index l.lasts.items p);
  whole : length l.elders.items ≡ l.row;
  room : length l.rows ≤ vec_capacity l.elders;
  at : (r : ℕ) → r < l.row → IsLast l.rows r (parent_of l.rows r) (slice_index l.elders.items r);
}
