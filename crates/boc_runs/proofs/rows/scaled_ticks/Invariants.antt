use Rattle.std.proofs.Common.{◌≡◌, ◌+◌, ◌*◌, ◌-◌, ◌<◌, ◌≤◌, List, length}
use Rattle.boc_program.specs.declared.limits.TheConstants.{MOST_TICKS}
use Rattle.boc_runs.specs.declared.rows.Row.{Row}
use Rattle.boc_runs.specs.Rows.{parent_of}
use Rattle.boc_runs.proofs.Scaling.{AreScaledTo}
use Rattle.boc_runs.proofs.rows.scaled_ticks.Given as goal

-- the children before this one have their offsets, of which this is the last
abbrev pub invariant-loop-child : goal.invariant-loop-child
invariant-loop-child l = record {
  begun : l.row < l.child;
  within : l.child ≤ length l.rows;
  child : l.child < length l.rows → parent_of l.rows l.child ≡ l.row;
  low : l.last ≤ MOST_TICKS * l.over + l.child;
  scaled : (after : List Row) × AreScaledTo l.rows l.row l.over l.under l.child after l.last;
}

abbrev pub decreases-loop-child : goal.decreases-loop-child
decreases-loop-child l = length l.rows - l.child
