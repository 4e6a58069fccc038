use Rattle.std.proofs.Common.{◌≡◌, ℕ, ◌<◌, length}
use Rattle.std.specs.Prelude.{slice_index}
use Rattle.std.specs.List.{Contains}
use Rattle.boc_program.specs.declared.limits.TheConstants.{MOST_COWNS}
use Rattle.boc_runs.specs.Rows.{cowns_of, written_of}
use Rattle.boc_sweep.specs.declared.lanes.TheConstants.{LANES}
use Rattle.boc_sweep.specs.Freed.{in_lane}
use Rattle.boc_sweep.proofs.Freeing.{SomeRaised}
use Rattle.boc_sweep.proofs.freed.note_end.Given as goal

-- the ticks of the cowns so far are raised in each lane
abbrev pub invariant-loop-place : goal.invariant-loop-place
invariant-loop-place l = record {
  held_whole : length l.held ≡ MOST_COWNS;
  wrote_whole : length l.wrote ≡ MOST_COWNS;
  held : (lane : ℕ) → lane < LANES → SomeRaised (Contains (cowns_of l.rows l.row)) (slice_index l.end lane) (cowns_of l.rows l.row) l.place
      (in_lane lane l.fn.held) (in_lane lane l.held);
  wrote : (lane : ℕ) → lane < LANES → SomeRaised (Contains (written_of l.rows l.row)) (slice_index l.end lane) (cowns_of l.rows l.row) l.place
      (in_lane lane l.fn.wrote) (in_lane lane l.wrote);
}
