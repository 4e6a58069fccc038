-- What is told of what remedies bring in several runs. A column has what one remedy brings in each run.
use Rattle.std.specs.Prelude.{◌≡◌, ◌==◌, ◌&&◌, ◌||◌, ℕ, nat_lt, Bool, true, false, not, cond, ℤ, pos, int_lt, ◌*ℤ◌, List, [], length, map, filter}
use Rattle.std.specs.Prelude.{Option, Some, None, slice_get, slice_index_or}
use Rattle.std.specs.List.{fold, list_all, list_any, count_by, range_with_len}
use Rattle.std.specs.Ordering.{int_cmp}
use Rattle.boc_remedies.specs.declared.remedy.Remedy.{Remedy}
use Rattle.boc_remedies.specs.InOrder.{put_before}
use Rattle.boc_remedies.specs.Remedies.{is_within}
use Rattle.boc_many_runs.specs.declared.lines.Line.{Line}
use Rattle.boc_many_runs.specs.Spreads.{AreSpread}

-- ---- nearly as good

-- what a remedy brings in the run of this number
abbrev pub in_run : List ℤ → ℕ → ℤ
in_run column number = slice_index_or column number (pos 0)

-- what the remedy at this place brings in the run of this number
abbrev pub less_at : List (List ℤ) → ℕ → ℕ → ℤ
less_at columns number place = in_run (slice_index_or columns place []) number

-- whether the one brings three quarters at least of what the other brings
abbrev pub brings_nearly : ℤ → ℤ → Bool
brings_nearly less other = not (int_lt (less *ℤ pos 4) (other *ℤ pos 3))

-- whether the remedy at one place is within that at another
abbrev pub lies_within : Option Remedy → Option Remedy → Bool
lies_within (Some small) (Some large) = is_within small large
lies_within small large = false

abbrev pub within_at : List Remedy → ℕ → ℕ → Bool
within_at remedies small large = lies_within (slice_get remedies small) (slice_get remedies large)

-- ---- the best in a run

-- whether another remedy, within the one at this place, brings nearly as much in a run
abbrev pub outdoes_in : List Remedy → List (List ℤ) → ℕ → ℕ → ℕ → Bool
outdoes_in remedies columns number place other =
    within_at remedies other place && brings_nearly (less_at columns number other) (less_at columns number place)

-- whether a remedy races in a run: it brings anything, and none within it brings nearly as much
abbrev pub races : List Remedy → List (List ℤ) → ℕ → ℕ → Bool
races remedies columns number place =
    int_lt (pos 0) (less_at columns number place)
    && not (list_any (outdoes_in remedies columns number place) (range_with_len 0 (length remedies)))

-- whether a remedy brings more than the best so far
abbrev pub is_better : List (List ℤ) → ℕ → Option ℕ → ℕ → Bool
is_better columns number None place = true
is_better columns number (Some best) place = int_lt (less_at columns number best) (less_at columns number place)

abbrev pub better : List Remedy → List (List ℤ) → ℕ → Option ℕ → ℕ → Option ℕ
better remedies columns number best place =
    cond (is_better columns number best place && races remedies columns number place) (Some place) best

-- the place of the best remedy of a run: of those that race the one that brings most, and of equal ones the first
abbrev pub best_in_run : List Remedy → List (List ℤ) → ℕ → Option ℕ
best_in_run remedies columns number = fold (better remedies columns number) None (range_with_len 0 (length remedies))

-- the same of the first so many runs
abbrev pub bests : List Remedy → List (List ℤ) → ℕ → List (Option ℕ)
bests remedies columns runs = map (best_in_run remedies columns) (range_with_len 0 runs)

abbrev pub is_at : ℕ → Option ℕ → Bool
is_at place None = false
is_at place (Some best) = best == place

-- in how many of these runs the remedy at this place is the best
abbrev pub times_best : List (Option ℕ) → ℕ → ℕ
times_best all place = count_by (is_at place) all

-- ---- what is told

-- whether a remedy brings nearly as much as another in each of so many runs
abbrev pub nearly_in_all : List ℤ → List ℤ → ℕ → Bool
nearly_in_all column other runs = list_all (λ number. brings_nearly (in_run column number) (in_run other number)) (range_with_len 0 runs)

-- whether another remedy, within the one at this place, brings nearly as much in each run
abbrev pub outdoes_in_all : List Remedy → List (List ℤ) → ℕ → ℕ → ℕ → Bool
outdoes_in_all remedies columns runs place other =
    within_at remedies other place && nearly_in_all (slice_index_or columns other []) (slice_index_or columns place []) runs

-- whether the remedy at this place is told: none within it brings nearly as much in each run
abbrev pub is_told : List Remedy → List (List ℤ) → ℕ → ℕ → Bool
is_told remedies columns runs place = not (list_any (outdoes_in_all remedies columns runs place) (range_with_len 0 (length remedies)))

-- the places of the remedies that are told
abbrev pub told_places : List Remedy → List (List ℤ) → ℕ → List ℕ
told_places remedies columns runs = filter (is_told remedies columns runs) (range_with_len 0 (length remedies))

-- ---- lines

-- the line of the remedy at this place: the least, the median and the most of what it brings, and in how many of so many runs it is the best
pub record IsLineOf (remedies : List Remedy) (columns : List (List ℤ)) (runs place : ℕ) (line : Line) : Type 0 where
  pub remedy : slice_get remedies place ≡ Some line.remedy
  pub spread : AreSpread int_cmp (slice_index_or columns place []) line.least line.median line.most
  pub best_in : line.best_in ≡ times_best (bests remedies columns runs) place

-- the lines of the remedies at these places
pub record AreLinesAt (remedies : List Remedy) (columns : List (List ℤ)) (runs : ℕ) (places : List ℕ) (lines : List Line) : Type 0 where
  pub long : length lines ≡ length places
  pub at : (k place : ℕ) (line : Line) → slice_get places k ≡ Some place → slice_get lines k ≡ Some line → IsLineOf remedies columns runs place line

-- whether a line goes before another: its median is more, or it is the best in more runs, or its most is more
abbrev pub goes_before : Line → Line → Bool
goes_before own other =
    int_lt other.median own.median || (not (int_lt own.median other.median)
    && (nat_lt other.best_in own.best_in || (own.best_in == other.best_in && int_lt other.most own.most)))

-- lines with one more, after those that it doesn't go before
abbrev pub ranked_line : List Line → Line → List Line
ranked_line ranked own = put_before (goes_before own) ranked own

-- The lines of the remedies that are told, in their order; of equal ones the first remedy's.
pub record AreLines (remedies : List Remedy) (columns : List (List ℤ)) (runs : ℕ) (lines : List Line) : Type 0 where
  pub all : List Line
  pub all_are : AreLinesAt remedies columns runs (told_places remedies columns runs) all
  pub are : lines ≡ fold ranked_line [] all
