-- What the bars of a plan are, and when those in one lane are apart.
use Rattle.std.specs.Prelude.{◌≡◌, ℕ, ◌≤◌, List, length, map, Some, slice_get}
use Rattle.std.specs.List.{AllPairs}
use Rattle.std.specs.List.Sorted.{IsPermutation}
use Rattle.boc_bars.specs.declared.bar.Bar.{Bar}
use Rattle.boc_bars.specs.declared.bar.Stretch.{Stretch}

-- which row a bar is of, and when that starts and ends: all but its lane
pub record Times : Type 0 where
  pub row : ℕ
  pub start : ℕ
  pub end : ℕ

-- all of a bar but its lane
abbrev pub times_of : Bar → Times
times_of bar = record { row = bar.row; start = bar.start; end = bar.end }

-- the bar of the row of this number, which runs so long, in the lane of that number
abbrev pub own_bar : ℕ → Stretch → Bar
own_bar row runs = record { row = row; start = runs.start; end = runs.end; lane = row }

-- for each of these rows there is one bar, at its number, in a lane of its own
pub record AreBars (rows : List Stretch) (bars : List Bar) : Type 0 where
  pub whole : length bars ≡ length rows
  pub at : (row : ℕ) (runs : Stretch) → slice_get rows row ≡ Some runs → slice_get bars row ≡ Some (own_bar row runs)

-- the same, in whatever order and in whatever lanes
abbrev pub AreBarsInSomeOrder : List Stretch → List Bar → Type 0
AreBarsInSomeOrder rows bars = (own : List Bar) × AreBars rows own × IsPermutation (map times_of own) (map times_of bars)

-- of two bars in one lane the one in front ends by the time that the other starts
abbrev pub AreApart : List Bar → Type 0
AreApart bars = AllPairs (λ a b. a.lane ≡ b.lane → a.end ≤ b.start) bars
