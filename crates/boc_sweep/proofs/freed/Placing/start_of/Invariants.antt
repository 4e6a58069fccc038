use Rattle.std.proofs.Common.{ℕ, ◌<◌}
use Rattle.std.specs.Prelude.{slice_index}
use Rattle.boc_sweep.specs.declared.lanes.TheConstants.{LANES}
use Rattle.boc_sweep.specs.Freed.{in_lane}
use Rattle.boc_sweep.proofs.Freeing.{StartSoFar}
use Rattle.boc_sweep.proofs.freed.Placing.start_of.Given as goal

-- the start in each lane, as far as the row's cowns are looked at
abbrev pub invariant-loop-place : goal.invariant-loop-place
invariant-loop-place l = (lane : ℕ) → lane < LANES → StartSoFar (slice_index l.self.cowns lane) l.rows (in_lane lane l.self.starts.items) l.row l.place
    (slice_index l.initial.start lane) (slice_index l.start lane)
