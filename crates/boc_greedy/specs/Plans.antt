-- The greedy plan of some rows, as it is answered.
use Rattle.std.specs.Prelude.{◌≡◌, ℕ, ◌+◌, ◌-◌, ◌*◌, ◌≤◌, List, length}
use Rattle.boc_program.specs.declared.limits.TheConstants.{MOST_ROWS}
use Rattle.boc_runs.specs.declared.rows.Row.{Row}
use Rattle.boc_plans.specs.Plans.{HasEnds, IsEnd, Keeps, work_of}
use Rattle.boc_plans.specs.Greedy.{IsBound, IsForWorkers, IsGreedy, IsMoment, IsSpan, CountsAll}
use Rattle.boc_greedy.specs.declared.plan.Greedy.{Greedy}

-- p times a tick is at most the work, and the span p - 1 times
abbrev pub IsClose : List Row → ℕ → ℕ → Type 0
IsClose rows p tick = (span : ℕ) → IsSpan rows span → p * tick ≤ work_of rows + (p - 1) * span

-- a tick is at most twice as late as the end of any plan for p workers that keeps
abbrev pub IsAtMostTwice : List Row → ℕ → ℕ → Type 0
IsAtMostTwice rows p tick = (plan workers : List ℕ) (last : ℕ) → Keeps rows plan → IsForWorkers rows p plan workers → IsEnd rows plan last →
    p * tick ≤ (2 * p - 1) * last

-- The plan is the greedy one of the rows for p workers, with the ends of its rows, its own end, the bound, and the number of ticks at which
-- something can change, which are at most twice as many as the rows. So it keeps, is for p workers, ends by the bound, and ends at most twice as
-- late as any plan for p workers. There are no more rows than there may be.
pub record IsGreedyPlanOf (rows : List Row) (p : ℕ) (plan : Greedy) : Type 0 where
  pub asked : plan.p ≡ p
  pub greedy : IsGreedy rows p plan.starts.items plan.workers.items
  pub ends : HasEnds rows plan.starts.items plan.ends.items
  pub ends_at : IsEnd rows plan.starts.items plan.ends_at
  pub bound : IsBound rows p plan.bound
  pub moments : CountsAll plan.moments (IsMoment rows plan.starts.items)
  pub few_moments : plan.moments ≤ 2 * length rows
  pub keeps : Keeps rows plan.starts.items
  pub workers : IsForWorkers rows p plan.starts.items plan.workers.items
  pub close : IsClose rows p plan.ends_at
  pub within : plan.ends_at ≤ plan.bound
  pub twice : IsAtMostTwice rows p plan.ends_at
  pub few : length plan.starts.items ≤ MOST_ROWS
