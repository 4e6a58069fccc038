use Rattle.std.proofs.Common.{◌≡◌, ℕ, ◌<◌, ◌≤◌, length}
use Rattle.std.specs.Prelude.{slice_index}
use Rattle.boc_used_greedy.proofs.queues.least_of.Given as goal

-- it is the least of the ticks so far, and one of all
abbrev pub invariant-loop-tick : goal.invariant-loop-tick
invariant-loop-tick l = record {
  least : (k : ℕ) → k < l.tick-index → l.least ≤ slice_index l.ticks k;
  there : (k : ℕ) × (k < length l.ticks) × (l.least ≡ slice_index l.ticks k);
}
