use Rattle.std.proofs.Common.{◌≡◌, ◌-◌, ◌<◌, ◌≤◌, List, length}
use Rattle.boc_runs.specs.declared.rows.Row.{Row}
use Rattle.boc_runs.specs.Rows.{IsLast, edited, parent_of, ticks_of}
use Rattle.boc_runs.specs.Changes.{IsScaled}
use Rattle.boc_runs.proofs.Joining.{joined}
use Rattle.boc_runs.proofs.rows.scale_rows.Given as goal

-- the children before this one have the offsets that they have in the end, of which this is the last
abbrev pub invariant-loop-child : goal.invariant-loop-child
invariant-loop-child l = record {
  begun : l.row < l.child;
  within : l.child ≤ length l.fn.rows;
  child : l.child < length l.fn.rows → parent_of l.fn.rows l.child ≡ l.row;
  so_far : (after : List Row) → IsScaled l.fn.rows l.row l.over l.under after
      → (l.rows ≡ joined l.child (edited after l.row (ticks_of l.fn.rows l.row)) l.fn.rows) × IsLast after l.child l.row l.last;
}

abbrev pub decreases-loop-child : goal.decreases-loop-child
decreases-loop-child l = length l.fn.rows - l.child
