use Rattle.std.proofs.Common.{◌≡◌, ℕ, ◌<◌, ◌≤◌, length}
use Rattle.std.specs.Prelude.{slice_index}
use Rattle.boc_program.specs.declared.limits.TheConstants.{MOST_COWNS}
use Rattle.boc_sweep.specs.Freed.{in_lane, IsFreed}
use Rattle.boc_sweep.proofs.freed.set_free.Given as goal

-- the lanes so far have their cowns free, and the others are as they were
abbrev pub invariant-loop-lane : goal.invariant-loop-lane
invariant-loop-lane l = record {
  whole : length l.ends ≡ MOST_COWNS;
  freed : (lane : ℕ) → lane < l.lane → IsFreed (slice_index l.cowns lane) (in_lane lane l.fn.ends) (in_lane lane l.ends);
  left : (lane : ℕ) → l.lane ≤ lane → in_lane lane l.ends ≡ in_lane lane l.fn.ends;
}
