-- The columns of a table of cowns, as they are added up.
use Rattle.std.specs.Prelude.{◌≡◌, ℕ, ◌*◌, ◌<◌, ◌≤◌, Bool, List, length, Option, Some, None, slice_get, slice_index, slice_index_or}
use Rattle.boc_program.specs.declared.limits.TheConstants.{MOST_COWNS, MOST_ROWS, MOST_TICKS}
use Rattle.boc_runs.specs.declared.rows.Row.{Row}
use Rattle.boc_plans.specs.declared.chain.ChainStep.{ChainStep}
use Rattle.boc_plans.specs.Edits.{IsCownSweep}
use Rattle.boc_order.specs.Least.{AreFirstStarts, AreLoads, wrote_cown}
use Rattle.boc_cowns.specs.declared.hot.HotCown.{HotCown}
use Rattle.boc_cowns.specs.declared.columns.Columns.{Columns}
use Rattle.boc_cowns.specs.Hot.{has_cown, one, step_hands, sum_where, wait_of, waits_over, weight_at}

-- for each cown what the first n numbers that pass its test add up to, none of them with more ticks than all rows can take together
pub record AreSums (passes : ℕ → ℕ → Bool) (ticks : ℕ → ℕ) (n : ℕ) (totals : List ℕ) : Type 0 where
  pub whole : length totals ≡ MOST_COWNS
  pub at : (cown : ℕ) → cown < MOST_COWNS → slice_index totals cown ≡ sum_where (passes cown) ticks n
  pub low : (cown : ℕ) → cown < MOST_COWNS → slice_index totals cown ≤ n * (MOST_ROWS * MOST_TICKS)

-- what the columns have of a cown
abbrev pub row_of : Columns → ℕ → HotCown
row_of columns cown = record {
  cown = cown;
  rows = slice_index columns.rows.items cown;
  wrote = slice_index columns.wrote.items cown;
  held = slice_index columns.held.items cown;
  from = slice_index_or columns.from.items cown None;
  waited = slice_index columns.waited.items cown;
  chain = slice_index columns.chain.items cown;
  without = slice_index columns.without.items cown;
}

-- each of so many cowns, in the order of their numbers
pub record AreListed (columns : Columns) (count : ℕ) (list : List HotCown) : Type 0 where
  pub whole : length list ≡ count
  pub at : (k : ℕ) → k < count → slice_get list k ≡ Some (row_of columns k)

-- these cowns have what the columns have of them
abbrev pub TellColumns : Columns → List HotCown → Type 0
TellColumns columns list = (i : ℕ) (own : HotCown) → slice_get list i ≡ Some own → own ≡ row_of columns own.cown

-- The columns of so many cowns of these rows, which plans see as `all`, in this plan, in which each row waits for these, in the plan in which only spawns
-- order the rows, and in this chain.
pub record HasColumns (list all : List Row) (plan : List ℕ) (after : List (Option ℕ)) (spawned : List ℕ) (steps : List ChainStep) (count : ℕ)
    (columns : Columns) : Type 0 where
  pub with_it : AreSums (has_cown list) one (length list) columns.rows.items
  pub that_wrote : AreSums (wrote_cown list) one (length list) columns.wrote.items
  pub for_ticks : AreLoads all columns.held.items
  pub first : AreFirstStarts all spawned (length all) columns.from.items
  pub waits : AreSums (waits_over all after) (wait_of all plan) (length all) columns.waited.items
  pub through : AreSums (step_hands all steps) (weight_at steps) (length steps) columns.chain.items
  pub left : IsCownSweep all count columns.without.items
