use Rattle.std.proofs.Common.{◌≡◌, ◌+◌, ◌≤◌, ◌<◌, ℕ, length}
use Rattle.std.specs.Prelude.{slice_index, vec_capacity}
use Rattle.boc_plans.specs.Edits.{IsEarlySpan}
use Rattle.boc_sweep.proofs.spawns.spans.Given as goal

-- the spans of the rows so far
abbrev pub invariant-loop-row : goal.invariant-loop-row
invariant-loop-row l = record {
  whole : length l.spans.items + 1 ≡ l.row;
  low : l.row ≤ length l.rows;
  room : length l.rows ≤ vec_capacity l.spans;
  at : (place : ℕ) → place < length l.spans.items → IsEarlySpan l.rows (place + 1) (slice_index l.spans.items place);
}
