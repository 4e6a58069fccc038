-- What is noted of rows that take very long.
use Rattle.std.specs.Prelude.{◌≡◌, ◌==◌, ◌⊎◌, ◌++◌, ℕ, Bool, true, false, cond, List, [], length, Option, Some, None, codes, decimal}
use Rattle.boc_runs.specs.declared.rows.Row.{Row}
use Rattle.boc_plans.specs.Plans.{work_of}
use Rattle.boc_names.specs.Names.{texts_of}
use Rattle.boc_names.specs.declared.names.Names.{Names}
use Rattle.boc_plans.specs.declared.sharing.Sharing.{Sharing}
use Rattle.boc_typical.specs.declared.outliers.Outliers.{Outliers}
use Rattle.boc_typical.specs.Outliers.{AreOutliers}
use Rattle.boc_run_commands.specs.NamedRuns.{BeginsRecord}
use Rattle.boc_run_commands.specs.Notes.{AreWhyNotes}

-- what is said of so many rows, after their number
abbrev pub rows_words : ℕ → List ℕ
rows_words count =
    cond (count == 1) (codes " row above 20 times the median ticks of its def takes ") (codes " rows above 20 times the median ticks of their def take ")

-- the note up to how many ticks these are
abbrev pub rows_text : ℕ → List ℕ
rows_text count = codes "boc: note: " ++ decimal count ++ rows_words count

-- the rest of the note: so many of all ticks
abbrev pub ticks_text : ℕ → ℕ → List ℕ
ticks_text ticks work = decimal ticks ++ codes " of " ++ decimal work ++ codes " ticks: see --typical\n"

-- the note: how many rows take very long, and how many of so many ticks; no text where there is nothing to note
abbrev pub long_text : ℕ → Option Outliers → List ℕ
long_text work None = []
long_text work (Some found) = rows_text found.rows ++ ticks_text found.ticks work

-- what is noted of those rows of these defs, one for each row, that take very long
pub record AreLongNoted (rows : List Row) (defs note : List ℕ) : Type 0 where
  pub defs_are : length defs ≡ length rows
  pub found : Option Outliers
  pub are : AreOutliers rows defs found
  pub note_is : note ≡ long_text (work_of rows) found

-- Rows are looked at for those that take very long where they come from the text of a record, and where they keep their ticks.
abbrev pub AreLookedAt : Bool → List ℕ → Bool → Type 0
AreLookedAt typical input true = (typical ≡ false) × BeginsRecord input
AreLookedAt typical input false = (typical ≡ true) ⊎ (BeginsRecord input → ⊥)

-- the note on the rows that an input tells of, as far as they are looked at; and else no text
abbrev pub IsLongNote : Bool → List ℕ → List Row → List ℕ → List ℕ → Type 0
IsLongNote true input rows defs note = note ≡ []
IsLongNote false input rows defs note = (BeginsRecord input × AreLongNoted rows defs note) ⊎ ((BeginsRecord input → ⊥) × (note ≡ []))

-- the notes on the rows of a run that have these names: on faults and on the timed run, and behind them the one on rows that take very long
pub record ArePlanNotes (sharing : Sharing) (compared : Option ℕ) (typical : Bool) (input : List ℕ) (names : Names) (rows : List Row)
    (notes : List ℕ) : Type 0 where
  pub before : List ℕ
  pub before_are : AreWhyNotes sharing compared input (texts_of names.rows.items) rows before
  pub long : List ℕ
  pub long_is : IsLongNote typical input rows names.defs.items long
  pub notes_are : notes ≡ before ++ long
