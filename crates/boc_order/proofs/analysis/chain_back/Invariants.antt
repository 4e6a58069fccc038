use Rattle.std.proofs.Common.{◌+◌, ◌<◌, ◌≤◌, length, reverse}
use Rattle.std.specs.Prelude.{vec_len, vec_capacity}
use Rattle.boc_plans.specs.Plans.{end_of}
use Rattle.boc_order.specs.Back.{LeadsTo}
use Rattle.boc_order.proofs.analysis.chain_back.Given as goal

-- the steps so far, the last one first, lead on from the row, and there is room for all
abbrev pub invariant-loop-row : goal.invariant-loop-row
invariant-loop-row l = record {
  there : l.row < length l.rows;
  room : l.row + vec_len l.steps ≤ vec_capacity l.steps;
  leads : LeadsTo l.rows l.plan.starts.items (end_of l.rows l.plan.starts.items l.last) l.row (reverse l.steps.items);
}

abbrev pub decreases-loop-row : goal.decreases-loop-row
decreases-loop-row l = l.row
