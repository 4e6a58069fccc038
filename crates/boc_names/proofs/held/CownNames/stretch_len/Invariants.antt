use Rattle.std.proofs.Common.{◌≡◌, ℕ, ◌+◌, ◌-◌, ◌<◌, ◌≤◌, true, get_or, length}
use Rattle.boc_names.specs.Names.{goes_on}
use Rattle.boc_names.proofs.held.CownNames.stretch_len.Given as goal

-- each of the cowns so far goes on from the one before it
abbrev pub invariant-loop-end : goal.invariant-loop-end
invariant-loop-end l = record {
  some : 0 < l.end;
  within : l.end ≤ length l.held;
  together : (k : ℕ) → k + 1 < l.end → goes_on l.self (get_or l.held k 0) (get_or l.held (k + 1) 0) ≡ true;
}

abbrev pub decreases-loop-end : goal.decreases-loop-end
decreases-loop-end l = length l.held - l.end
