use Rattle.std.proofs.Common.{◌≡◌, ◌<◌, ◌≤◌, ◌-◌, ℕ, max, length}
use Rattle.std.specs.Prelude.{slice_index}
use Rattle.boc_sweep.proofs.windows.halve.Given as goal

abbrev pub invariant-loop-place : goal.invariant-loop-place
invariant-loop-place l = record {
  len : length l.values ≡ length l.fn.values;
  within : l.place ≤ length l.fn.values;
  before : (j : ℕ) → j < l.place → slice_index l.values j ≡ slice_index l.fn.values j;
  low : (j : ℕ) → j < l.step → slice_index l.values j ≡ slice_index l.fn.values j;
  high : (j : ℕ) → l.place ≤ j → l.step ≤ j → j < length l.fn.values
      → slice_index l.values j ≡ max (slice_index l.fn.values (j - l.step)) (slice_index l.fn.values j);
}

abbrev pub decreases-loop-place : goal.decreases-loop-place
decreases-loop-place l = l.place
