use Rattle.std.proofs.Common.{◌≡◌, ◌≢◌, ◌<◌, ℕ, max, length}
use Rattle.std.specs.Prelude.{slice_index}
use Rattle.boc_sweep.proofs.tails.raise_ends.Given as goal

-- the ends of the rows so far are raised, and those of the others aren't
abbrev pub invariant-loop-row : goal.invariant-loop-row
invariant-loop-row l = record {
  len : length l.ends ≡ length l.fn.ends;
  here : (i : ℕ) → i < l.row-index → slice_index l.ends (slice_index l.rows i) ≡ max (slice_index l.fn.ends (slice_index l.rows i)) l.tail;
  other : (a : ℕ) → ((i : ℕ) → i < l.row-index → slice_index l.rows i ≢ a) → slice_index l.ends a ≡ slice_index l.fn.ends a;
}
