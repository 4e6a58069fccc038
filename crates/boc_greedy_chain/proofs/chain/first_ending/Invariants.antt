use Rattle.std.proofs.Common.{◌≡◌, ◌<◌, ◌-◌, ℕ, length}
use Rattle.std.specs.Prelude.{slice_index}
use Rattle.boc_greedy_chain.proofs.chain.first_ending.Given as goal

-- no row so far ends at the tick
abbrev pub invariant-loop-row : goal.invariant-loop-row
invariant-loop-row l = (r : ℕ) → r < l.row → slice_index l.ends r ≡ l.tick → ⊥

abbrev pub decreases-loop-row : goal.decreases-loop-row
decreases-loop-row l = length l.ends - l.row
