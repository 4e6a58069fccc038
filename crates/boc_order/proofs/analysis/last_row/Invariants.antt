use Rattle.std.proofs.Common.{◌≡◌, ℕ, ◌<◌, ◌≤◌, length, get_or}
use Rattle.boc_order.proofs.analysis.last_row.Given as goal

-- the first of the latest so far
abbrev pub invariant-loop-number : goal.invariant-loop-number
invariant-loop-number l = record {
  there : l.last < length l.ends;
  is : l.latest ≡ get_or l.ends l.last 0;
  latest : (k : ℕ) → k < l.number → get_or l.ends k 0 ≤ get_or l.ends l.last 0;
  first : (k : ℕ) → k < l.last → get_or l.ends k 0 < get_or l.ends l.last 0;
}
