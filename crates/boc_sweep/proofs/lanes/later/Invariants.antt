use Rattle.std.proofs.Common.{◌≡◌, ℕ, ◌<◌, max, length, slice_index}
use Rattle.boc_sweep.specs.declared.lanes.TheConstants.{LANES}
use Rattle.boc_sweep.proofs.lanes.later.Given as goal

-- the lanes so far have the later tick
abbrev pub invariant-loop-lane : goal.invariant-loop-lane
invariant-loop-lane l = record {
  whole : length l.latest ≡ LANES;
  at : (lane : ℕ) → lane < l.lane → slice_index l.latest lane ≡ max (slice_index l.ticks lane) (slice_index l.others lane);
}
