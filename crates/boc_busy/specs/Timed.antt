-- When the rows of a run ran, and on which workers.
use Rattle.std.specs.Prelude.{◌≡◌, ℕ, ◌≤◌, List}
use Rattle.boc_runs.specs.declared.rows.Row.{Row}
use Rattle.boc_plans.specs.Plans.{work_of, HasEnds, IsEnd, Keeps}
use Rattle.boc_plans.specs.Greedy.{IsBound, IsForWorkers, IsSpan}
use Rattle.boc_busy.specs.declared.timed.TimedRows.{TimedRows}

-- a run on p workers that ends at this tick ends within the bound, and if there is one worker, at the work
pub record IsInTime (p work bound last : ℕ) : Type 0 where
  pub within : last ≤ bound
  pub alone : p ≡ 1 → last ≡ work

-- Rows that start so on these of p workers ran by a schedule, and this is when: none starts before its spawn, nor before the end of a row that is ordered
-- before it, and no worker has two rows at one tick. The rows have these ends. The last is no sooner than the span, and in time.
pub record AreTimed (rows : List Row) (p : ℕ) (starts workers : List ℕ) (t : TimedRows) : Type 0 where
  pub p_is : t.p ≡ p
  pub starts_are : t.starts.items ≡ starts
  pub workers_are : t.workers.items ≡ workers
  pub keeps : Keeps rows starts
  pub for_workers : IsForWorkers rows p starts workers
  pub ends_are : HasEnds rows starts t.ends.items
  pub last_is : IsEnd rows starts t.ends_at
  pub bound_is : IsBound rows p t.bound
  pub late : (span : ℕ) → IsSpan rows span → span ≤ t.ends_at
  pub in_time : IsInTime p (work_of rows) t.bound t.ends_at
