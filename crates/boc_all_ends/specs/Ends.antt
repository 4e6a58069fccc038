-- All ends of a program.
use Rattle.std.specs.Prelude.{◌≡◌, ◌↔◌, ℕ, ◌+◌, ◌<◌, ◌≤◌, List, length, map, true, false, Result, Ok, Err, ℤ}
use Rattle.std.specs.List.{Contains}
use Rattle.std.specs.Ordering.{int_cmp}
use Rattle.std.specs.Cmp.Lexicographic.{slice_cmp}
use Rattle.std.specs.List.Sorted.{IsStrictlySortedBy}
use Rattle.boc_program.specs.declared.limits.TheConstants.{MOST_ROWS}
use Rattle.boc_program.specs.declared.program.Program.{Program}
use Rattle.boc_runs.specs.declared.event.Event.{Event}
use Rattle.boc_runs.specs.Legal.{entries}
use Rattle.boc_runs.specs.Run.{config_of, IsRun, IsWholeRun}
use Rattle.boc_runs.specs.machine.AlongRows.{serial_of_log}
use Rattle.boc_fronts.specs.Orders.{HasWish}
use Rattle.boc_all_ends.specs.declared.found.End.{End}
use Rattle.boc_all_ends.specs.declared.found.Found.{Found}

-- a whole run of so many rows ends with these values
pub record IsEnd (p : Program) (rows : ℕ) (values : List ℤ) : Type 0 where
  pub log : List Event
  pub whole : IsWholeRun p log
  pub many : length (entries log) ≡ rows
  pub values_are : (config_of p log).values ≡ values

-- an end of these has these values, and the number of rows is one of those from its least to its most
pub record HasEndOf (ends : List End) (rows : ℕ) (values : List ℤ) : Type 0 where
  pub end : End
  pub among : Contains ends end
  pub values_are : end.values.items ≡ values
  pub least : end.least ≤ rows
  pub most : rows ≤ end.most

-- These are the ends of the whole runs of fewer rows than this, in the order of their values: a whole run of as many rows as are told for it, the least and
-- the most, ends with each of them.
pub record AreEndsBelow (p : Program) (below : ℕ) (ends : List End) : Type 0 where
  pub least : (e : End) → Contains ends e → IsEnd p e.least e.values.items
  pub most : (e : End) → Contains ends e → IsEnd p e.most e.values.items
  pub all : (rows : ℕ) (values : List ℤ) → rows < below → IsEnd p rows values → HasEndOf ends rows values
  pub in_order : IsStrictlySortedBy (slice_cmp int_cmp) (map (λ e. e.values.items) ends)

-- a run has as many rows as there may be, and one of them has a wish that is no row yet
pub record IsEndless (p : Program) : Type 0 where
  pub log : List Event
  pub run : IsRun p log
  pub many : length (entries log) ≡ MOST_ROWS
  pub row : ℕ
  pub wishes : HasWish (serial_of_log p log).rows row

-- what is found is so: the search stopped before it was whole only if it looked at as many fronts as it may
pub record IsFound (p : Program) (most : ℕ) (found : Found) : Type 0 where
  pub ends : AreEndsBelow p found.below found.all.items
  pub whole : found.whole ≡ true → found.below ≡ MOST_ROWS + 1
  pub stopped : found.whole ≡ false → found.fronts ≡ most
  pub endless : found.whole ≡ true → (found.endless ≡ true ↔ IsEndless p)

-- what is answered; where memory is refused nothing is said
abbrev pub AnswersAll : {E : Type 0} → Program → ℕ → Result Found E → Type 0
AnswersAll p most (Ok found) = IsFound p most found
AnswersAll p most (Err refused) = Unit {0}
