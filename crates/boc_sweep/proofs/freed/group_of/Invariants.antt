use Rattle.std.proofs.Common.{◌≡◌, ℕ, ◌<◌, length}
use Rattle.std.specs.Prelude.{slice_index}
use Rattle.boc_sweep.specs.declared.lanes.TheConstants.{LANES}
use Rattle.boc_sweep.proofs.freed.group_of.Given as goal

-- the lanes so far have their cowns
abbrev pub invariant-loop-lane : goal.invariant-loop-lane
invariant-loop-lane l = record {
  whole : length l.lanes ≡ LANES;
  at : (lane : ℕ) → lane < l.lane → lane < length l.own → slice_index l.lanes lane ≡ slice_index l.own lane;
}
