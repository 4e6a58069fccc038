use Rattle.std.proofs.Common.{◌≡◌, ℕ, ◌<◌, ◌≤◌, length, max}
use Rattle.std.specs.Prelude.{slice_index}
use Rattle.boc_table.proofs.put.widen.Given as goal

abbrev pub invariant-loop-column : goal.invariant-loop-column
invariant-loop-column l = record {
  long : length l.widths ≡ length l.fn.widths;
  wide : (k : ℕ) → k < l.column → slice_index l.widths k ≡ max (slice_index l.fn.widths k) (slice_index l.lens k);
  same : (k : ℕ) → l.column ≤ k → slice_index l.widths k ≡ slice_index l.fn.widths k;
}
