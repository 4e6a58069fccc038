use Rattle.std.proofs.Common.{ℕ, None}
use Rattle.boc_used_greedy.specs.Plans.{IsLow, IsMade, unstarted_of}
use Rattle.boc_used_greedy.proofs.plan.Plan.finish.Given as goal

-- the plan is made as far as this
abbrev pub invariant-loop-list : goal.invariant-loop-list
invariant-loop-list l = record {
  made : (p : ℕ) → IsMade l.rows l.holds.all.items p None l.fn.self → IsMade l.rows l.holds.all.items p None l.self;
  low : IsLow l.rows l.self.starts.items l.self.tick;
}

abbrev pub decreases-loop-list : goal.decreases-loop-list
decreases-loop-list l = unstarted_of l.self.starts.items
