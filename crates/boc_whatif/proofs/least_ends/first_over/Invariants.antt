use Rattle.std.proofs.Common.{ℕ, ◌<◌, ◌≤◌, IfNone}
use Rattle.boc_plans.specs.Seen.{seen}
use Rattle.boc_plans.specs.Sweeps.{IsLeastGreedyEnd}
use Rattle.boc_whatif.proofs.least_ends.first_over.Given as goal

-- none of the rows so far takes more than its least ticks, unless a tick is found
abbrev pub invariant-loop-row : goal.invariant-loop-row
invariant-loop-row l = IfNone l.first ((row : ℕ) → l.fn.from ≤ row → row < l.row
    → IsLeastGreedyEnd (seen l.parts.sharing l.parts.rows.now) l.parts.workers row l.parts.end)
