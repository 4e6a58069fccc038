-- Why reports are true.
use Rattle.std.proofs.Common.{◌≡◌, ◌<◌, ℕ, Bool, List, slice_index, refl, Option, Some, None, arith}
use Rattle.boc_plans.specs.declared.chain.ChainStep.{ChainStep}
use Rattle.boc_runs.specs.declared.rows.Row.{Row}
use Rattle.boc_runs.specs.Rows.{IsRows}
use Rattle.boc_plans.specs.Plans.{IsEarliest, IsEnd, work_of}
use Rattle.boc_plans.specs.Chains.{IsChain, weight_of}
use Rattle.boc_plans.specs.Greedy.{IsGreedy}
use Rattle.boc_run_commands.specs.Answers.{IsPartFor, IsReport}
use Rattle.boc_words.specs.declared.asked.AskedPlans.{AskedPlans}
use Rattle.boc_greedy.proofs.Bound.{end_within, greedy_close, greedy_for_workers, greedy_keeps}
use Rattle.boc_order.proofs.Chaining.{earliest_le_end}
use Rattle.boc_order.proofs.Weighing.{weight_is_end}
use Rattle.boc_run_commands.specs.Promises.{IsBest, IsTrueReport, IsWithinBound, PartIsWithinBound}

-- the earliest plan is the best, with its end, and a chain that weighs as much
pub best : (rows : List Row) (plan : List ℕ) (chain : List ChainStep) (span : ℕ) → IsEarliest rows plan → IsEnd rows plan span → IsChain rows chain →
    weight_of chain ≡ span → IsBest rows plan chain span
best rows plan chain span earliest ends is weight = record {
  keeps = earliest.keeps;
  no_earlier = earliest.least;
  ends = ends;
  is_chain = is;
  weight = weight;
  no_sooner = earliest_le_end rows plan span earliest ends;
}

-- there is a worker, since there is a row
some_worker : (rows : List Row) (p : ℕ) (plan workers : List ℕ) → IsRows rows → IsGreedy rows p plan workers → 0 < p
some_worker rows p plan workers hr greedy =
    let free = (greedy.at (slice_index plan 0)).free 0 hr.not_empty refl in
    omega (arith, free.below)

-- a greedy plan ends within its bound
pub within_bound : (rows : List Row) (p : ℕ) (plan workers : List ℕ) (last : ℕ) → IsRows rows → IsGreedy rows p plan workers → IsEnd rows plan last
    → IsWithinBound rows p plan workers last
within_bound rows p plan workers last hr greedy end =
    let some : 0 < p = some_worker rows p plan workers hr greedy in
    record {
      keeps = greedy_keeps rows hr p some plan workers greedy;
      for_workers = greedy_for_workers rows hr p some plan workers greedy;
      ends = end;
      within = λ span is. end_within p (work_of rows) span last some (greedy_close rows hr p some plan workers greedy last end span is);
    }

part_within : (rows : List Row) (unplanned : Bool) (workers : Option ℕ) (part : List ℕ) → IsRows rows → (is : IsPartFor rows unplanned workers part)
    → PartIsWithinBound rows unplanned workers part is
part_within rows unplanned None part hr is = tt
part_within rows unplanned (Some p) part hr is = within_bound rows p is.starts is.workers is.last hr is.greedy is.last_is

-- every report is true
pub true_report : (rows : List Row) (asked : AskedPlans) (text : List ℕ) → IsRows rows → IsReport rows asked text → IsTrueReport rows asked text
true_report rows asked text hr report = record {
  report = report;
  best = best rows report.starts report.steps report.span report.earliest report.span_is report.picked.chain
      (weight_is_end rows hr report.starts report.span report.steps report.earliest report.span_is report.picked);
  greedy = part_within rows asked.unplanned asked.workers report.part hr report.part_is;
}
