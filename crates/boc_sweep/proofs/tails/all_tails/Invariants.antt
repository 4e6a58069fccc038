use Rattle.std.proofs.Common.{◌≡◌, ◌≤◌, length}
use Rattle.std.specs.Prelude.{slice_index}
use Rattle.boc_sweep.specs.Tails.{TailsFrom}
use Rattle.boc_sweep.proofs.tails.all_tails.Given as goal

-- the rows from this one on have their tails
abbrev pub invariant-loop-row : goal.invariant-loop-row
invariant-loop-row l = record {
  low : l.row ≤ length l.rows;
  starts_len : length l.starts.items ≡ length l.rows;
  ends_len : length l.ends.items ≡ length l.rows;
  tails : TailsFrom l.rows (slice_index l.starts.items) (slice_index l.ends.items) l.row;
}

abbrev pub decreases-loop-row : goal.decreases-loop-row
decreases-loop-row l = l.row
