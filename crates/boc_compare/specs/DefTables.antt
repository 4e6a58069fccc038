-- What is told of each def below the bound, whether a row is of it or not.
use Rattle.std.specs.Prelude.{◌≡◌, ◌==◌, ◌<◌, ℕ, List, length, count_by, sum, slice_index}
use Rattle.boc_program.specs.declared.limits.TheConstants.{MOST_ROWS}
use Rattle.boc_runs.specs.declared.rows.Row.{Row}
use Rattle.boc_typical.specs.Medians.{AreTypicalTicks, ticks_in}
use Rattle.boc_why.specs.declared.shares.Share.{Share}
use Rattle.boc_compare.specs.declared.defs.Tables.{Tables}
use Rattle.boc_compare.specs.declared.totals.Totals.{Totals}
use Rattle.boc_compare.specs.Totalled.{AreShareTicks}

-- a table has for each key below the bound what it is told to have
pub record IsTable (has : ℕ → ℕ) (table : List ℕ) : Type 0 where
  pub whole : length table ≡ MOST_ROWS
  pub each : (key : ℕ) → key < MOST_ROWS → slice_index table key ≡ has key

-- how many rows are of a def
abbrev pub AreCounts : List ℕ → List ℕ → Type 0
AreCounts defs table = IsTable (λ key. count_by (λ d. d == key) defs) table

-- what the rows of a def take together
abbrev pub AreDefTicks : List Row → List ℕ → List ℕ → Type 0
AreDefTicks rows defs table = IsTable (λ key. sum (ticks_in rows defs key)) table

-- the tables of all defs
pub record AreDefTables (rows : List Row) (defs : List ℕ) (by_def : List Share) (tables : Tables) : Type 0 where
  pub counts : AreCounts defs tables.counts.items
  pub ticks : AreDefTicks rows defs tables.ticks.items
  pub typical : AreTypicalTicks rows defs MOST_ROWS tables.typical.items
  pub chain : AreShareTicks by_def tables.chain.items

-- each table has a place for each def below the bound
pub record AreWhole (tables : Tables) : Type 0 where
  pub counts : length tables.counts.items ≡ MOST_ROWS
  pub ticks : length tables.ticks.items ≡ MOST_ROWS
  pub typical : length tables.typical.items ≡ MOST_ROWS
  pub chain : length tables.chain.items ≡ MOST_ROWS

-- what the tables tell of a def
abbrev pub of_tables : Tables → ℕ → Totals
of_tables tables key = record {
  key = key;
  count = slice_index tables.counts.items key;
  ticks = slice_index tables.ticks.items key;
  more = slice_index tables.typical.items key;
  chain = slice_index tables.chain.items key;
}
