-- Rows that take very long.
use Rattle.std.specs.Prelude.{◌≡◌, ℕ, ◌+◌, ◌*◌, ◌<◌, Bool, nat_lt, cond, List, All, Option, Some, None, slice_index, count_by}
use Rattle.std.specs.List.{sum_by}
use Rattle.boc_runs.specs.declared.rows.Row.{Row}
use Rattle.boc_typical.specs.declared.medians.DefTicks.{DefTicks}
use Rattle.boc_typical.specs.declared.outliers.Outliers.{Outliers}
use Rattle.boc_typical.specs.declared.outliers.TheConstants.{OUTLIER_PART, OUTLIER_TIMES}
use Rattle.boc_typical.specs.Medians.{AreTypicalTicks}
use Rattle.boc_typical.specs.Taken.{taken}

-- a row of this def with these ticks takes more than twenty times the typical ticks
abbrev pub is_outlier : List ℕ → DefTicks → Bool
is_outlier typical t = nat_lt (OUTLIER_TIMES * slice_index typical t.def) t.ticks

-- the ticks of a row that takes so long, and 0 for another
abbrev pub outlier_ticks : List ℕ → DefTicks → ℕ
outlier_ticks typical t = cond (is_outlier typical t) t.ticks 0

-- how many of these take so long, and how many ticks together
abbrev pub outliers_among : List ℕ → List DefTicks → Outliers
outliers_among typical all = record { rows = count_by (is_outlier typical) all; ticks = sum_by (outlier_ticks typical) all }

-- the same with one more that takes so many ticks where these are usual, if it takes so long
abbrev pub with_row : Outliers → ℕ → ℕ → Outliers
with_row found ticks usual =
    cond (nat_lt (OUTLIER_TIMES * usual) ticks) (record { rows = found.rows + 1; ticks = found.ticks + ticks }) found

-- the ticks of all rows
abbrev pub work_in : List Row → ℕ
work_in rows = sum_by (λ (x : Row). x.ticks) rows

-- what is told of them: nothing where they take a tenth of all ticks at most
abbrev pub noted : ℕ → Outliers → Option Outliers
noted work found = cond (nat_lt work (OUTLIER_PART * found.ticks)) (Some found) None

-- what is told of the rows that take very long
pub record AreOutliers (rows : List Row) (defs : List ℕ) (found : Option Outliers) : Type 0 where
  pub bound : ℕ
  pub below : All (λ d. d < bound) defs
  pub typical : List ℕ
  pub typical_is : AreTypicalTicks rows defs bound typical
  pub is : found ≡ noted (work_in rows) (outliers_among typical (taken rows defs))
