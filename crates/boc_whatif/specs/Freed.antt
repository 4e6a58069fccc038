-- The ends of greedy plans without some cowns.
use Rattle.std.specs.Prelude.{◌≡◌, ℕ, ◌+◌, ◌<◌, List, length, slice_index}
use Rattle.boc_runs.specs.declared.rows.Row.{Row}
use Rattle.boc_runs.specs.Changes.{without}
use Rattle.boc_plans.specs.Sweeps.{IsGreedyEnd}

-- for each cown from one on, up to another one, the end of the greedy plan of the rows without it
pub record AreEndsWithout (rows : List Row) (p from to : ℕ) (ends : List ℕ) : Type 0 where
  pub whole : from + length ends ≡ to
  pub at : (place : ℕ) → place < length ends → IsGreedyEnd (without (from + place) rows) p (slice_index ends place)
