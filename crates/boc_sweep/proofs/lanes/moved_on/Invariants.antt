use Rattle.std.proofs.Common.{◌≡◌, ℕ, ◌+◌, ◌<◌, length, slice_index}
use Rattle.boc_sweep.specs.declared.lanes.TheConstants.{LANES}
use Rattle.boc_sweep.proofs.lanes.moved_on.Given as goal

-- the lanes so far are moved on
abbrev pub invariant-loop-lane : goal.invariant-loop-lane
invariant-loop-lane l = record {
  whole : length l.behind ≡ LANES;
  at : (lane : ℕ) → lane < l.lane → slice_index l.behind lane ≡ slice_index l.ticks lane + l.more;
}
