use Rattle.std.proofs.Common.{◌<◌, length, reverse}
use Rattle.boc_plans.specs.Plans.{start_of}
use Rattle.boc_greedy_chain.proofs.Chaining.{LeadOn}
use Rattle.boc_greedy_chain.proofs.chain.greedy_chain.Given as goal

-- the steps so far, the last one first, lead on from the row
abbrev pub invariant-loop-row : goal.invariant-loop-row
invariant-loop-row l = record {
  there : l.row < length l.rows;
  leads : LeadOn l.rows l.plan.starts.items l.plan.workers.items l.row (reverse l.steps.items);
}

-- each step goes back to a row that starts sooner
abbrev pub decreases-loop-row : goal.decreases-loop-row
decreases-loop-row l = start_of l.plan.starts.items l.row
