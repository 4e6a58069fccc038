-- The ends of the greedy plans for one, two, three and more workers, and what they lie between.
use Rattle.std.specs.Prelude.{◌≡◌, ℕ, ◌+◌, ◌-◌, ◌/◌, max, List, length, slice_get, Some}
use Rattle.boc_runs.specs.declared.rows.Row.{Row}
use Rattle.boc_plans.specs.Plans.{work_of}
use Rattle.boc_plans.specs.Greedy.{IsBound, IsSpan}
use Rattle.boc_plans.specs.Sweeps.{IsGreedyEnd}
use Rattle.boc_greedy.specs.declared.points.CurvePoint.{CurvePoint}

-- a number divided by p, rounded up
abbrev pub rounded_up : ℕ → ℕ → ℕ
rounded_up number p = (number + (p - 1)) / p

-- the tick before which no plan for p workers ends: the greater of the span and the work divided by p, rounded up
pub record IsLowBound (rows : List Row) (p low : ℕ) : Type 0 where
  pub span : ℕ
  pub is_span : IsSpan rows span
  pub is : low ≡ max span (rounded_up (work_of rows) p)

-- what p workers make of the rows: the end of their greedy plan, and the bounds that it lies between
pub record IsCurvePoint (rows : List Row) (p : ℕ) (point : CurvePoint) : Type 0 where
  pub asked : point.workers ≡ p
  pub is_end : IsGreedyEnd rows p point.end
  pub is_low : IsLowBound rows p point.low
  pub is_bound : IsBound rows p point.bound

-- a point for each number of workers from 1 to the most, in this order
pub record IsCurve (rows : List Row) (most : ℕ) (points : List CurvePoint) : Type 0 where
  pub whole : length points ≡ most
  pub at : (place : ℕ) (point : CurvePoint) → slice_get points place ≡ Some point → IsCurvePoint rows (place + 1) point
