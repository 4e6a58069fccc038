-- What the greedy plans of a sweep share.
use Rattle.std.specs.Prelude.{◌≡◌, length}
use Rattle.boc_runs.specs.Rows.{IsRows}
use Rattle.boc_plans.specs.Seen.{seen}
use Rattle.boc_plans.specs.Sweeps.{IsGreedyEnd}
use Rattle.boc_order.specs.Waits.{AreWaits}
use Rattle.boc_greedy.specs.Consequences.{AreConsequences}
use Rattle.boc_sweep.specs.Lasts.{HasLasts}
use Rattle.boc_whatif.specs.declared.least_ends.Parts.{Parts}

-- the rows that each row waits for, what follows from each, the offset of its last child, as many starts as rows, and the end of the plan of the rows
-- as they are
pub record AreParts (parts : Parts) : Type 0 where
  pub shape : IsRows parts.rows.now
  pub waits_are : AreWaits (seen parts.sharing parts.rows.now) parts.waits.now
  pub consequences_are : AreConsequences (seen parts.sharing parts.rows.now) parts.waits.now parts.consequences.now
  pub lasts_are : HasLasts parts.rows.now parts.lasts.now
  pub starts_whole : length parts.starts.now ≡ length parts.rows.now
  pub end_is : IsGreedyEnd (seen parts.sharing parts.rows.now) parts.workers parts.end
