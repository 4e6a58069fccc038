-- The ends of greedy plans in which one row after another takes the least ticks that it can, or the rows are without one cown after another.
use Rattle.std.specs.Prelude.{◌≡◌, ℕ, ◌<◌, List, length, slice_index}
use Rattle.boc_runs.specs.declared.rows.Row.{Row}
use Rattle.boc_runs.specs.Rows.{edited}
use Rattle.boc_runs.specs.Changes.{without}
use Rattle.boc_plans.specs.Plans.{IsEnd}
use Rattle.boc_plans.specs.Greedy.{IsGreedy}
use Rattle.boc_plans.specs.Edits.{IsLeastTicks}

-- the end of the greedy plan for p workers
pub record IsGreedyEnd (rows : List Row) (p end : ℕ) : Type 0 where
  pub plan : List ℕ
  pub workers : List ℕ
  pub greedy : IsGreedy rows p plan workers
  pub ends : IsEnd rows plan end

-- the end of the greedy plan of the rows in which one row takes the least ticks that it can
pub record IsLeastGreedyEnd (rows : List Row) (p row end : ℕ) : Type 0 where
  pub least : ℕ
  pub is_least : IsLeastTicks rows row least
  pub is_end : IsGreedyEnd (edited rows row least) p end

-- for each row the end of the greedy plan of the rows in which that row takes the least ticks that it can
pub record IsGreedySweep (rows : List Row) (p : ℕ) (ends : List ℕ) : Type 0 where
  pub whole : length ends ≡ length rows
  pub at : (row : ℕ) → row < length rows → IsLeastGreedyEnd rows p row (slice_index ends row)

-- for each of so many cowns the end of the greedy plan of the rows without it
pub record IsGreedyCownSweep (rows : List Row) (p count : ℕ) (ends : List ℕ) : Type 0 where
  pub whole : length ends ≡ count
  pub at : (cown : ℕ) → cown < count → IsGreedyEnd (without cown rows) p (slice_index ends cown)
