-- The waits of the rows so far.
use Rattle.std.specs.Prelude.{◌≡◌, ℕ, ◌+◌, ◌≤◌, List, length, vec_len, vec_capacity}
use Rattle.boc_runs.specs.declared.rows.Row.{Row}
use Rattle.boc_order.specs.declared.gathering.Gathering.{Gathering}
use Rattle.boc_order.specs.Uses.{AreUses}
use Rattle.boc_order.specs.Waits.{AreBounds, AreFirstWaits, lists_between}

-- the waits of the first n rows are gathered, and there is room for the bounds of those of all rows
pub record AreGathered (rows : List Row) (n : ℕ) (g : Gathering) : Type 0 where
  pub room : length rows + 1 ≤ vec_capacity g.first
  pub len : vec_len g.first ≡ n + 1
  pub uses : AreUses rows n g.uses.items
  pub bounds : AreBounds g.first.items (length g.list.items)
  pub waits : AreFirstWaits rows n (lists_between g.first.items g.list.items)
