-- What `compare` answers, and what it refuses.
use Rattle.std.specs.Prelude.{◌≡◌, ◌++◌, ◌&&◌, Bool, true, false, List, [], ◌∷◌, Option, Some, None, Result, Ok, Err, unwrap_or, codes}
use Rattle.boc_runs.specs.declared.rows.Row.{Row}
use Rattle.boc_runs.specs.Records.{Recorded}
use Rattle.boc_names.specs.declared.names.Names.{Names}
use Rattle.boc_names.specs.Names.{Text, texts_of}
use Rattle.boc_compare.specs.declared.side.Side.{Side}
use Rattle.boc_compare.specs.Sides.{IsSide}
use Rattle.boc_compare_report.specs.declared.told.Compared.{Compared}
use Rattle.boc_compare_report.specs.Compared.{IsCompareText}
use Rattle.boc_words.specs.declared.asked.AskedCompare.{AskedCompare}
use Rattle.boc_words.specs.declared.asked.CompareFiles.{CompareFiles}
use Rattle.boc_words.specs.declared.asked.RunFile.{RunFile}
use Rattle.boc_run_commands.specs.declared.fault.Fault.{Fault}
use Rattle.boc_run_commands.specs.declared.fault.Fault.TheVariants as faults
use Rattle.boc_run_commands.specs.declared.fault.Want.TheVariants as wants
use Rattle.boc_run_commands.specs.Measured.{AreMeasured}
use Rattle.boc_run_commands.specs.NamedRuns.{BeginsRecord, IsNamedRun, IsOfNamedRun, IsTaken}
use Rattle.boc_run_commands.specs.Notes.{AreWanted, notes_of_rows}
use Rattle.boc_plan_commands.specs.WhyAnswers.{asked_of}
use Rattle.boc_several_commands.specs.declared.compare.Pair.{Pair}
use Rattle.boc_several_commands.specs.declared.compare.Which.{Which}
use Rattle.boc_several_commands.specs.declared.compare.Which.TheVariants.{Before, After}
use Rattle.boc_several_commands.specs.declared.side.Sided.{Sided}

-- ---- one side

-- what is known of the rows of a run, by their names
abbrev pub IsSideTold : AskedCompare → List Row → Names → Side → Type 0
IsSideTold asked rows names side = IsSide (asked_of rows names asked.sharing asked.workers) side

-- The rows of an input have names of their own: with a file of names, or where it is no record.
abbrev pub TellsNamed : Option RunFile → Text → Bool → Type 0
TellsNamed (Some file) text named = named ≡ true
TellsNamed None text true = BeginsRecord text → ⊥
TellsNamed None text false = BeginsRecord text

-- What is known of the run that an input tells of, with the names in a file beside it, if there is one: each number is that of its rows, as they are or with
-- typical ticks; and the notes on them, by their names, where they are wanted.
pub record IsSided (asked : AskedCompare) (file : Option RunFile) (bytes text : Text) (sided : Sided) : Type 0 where
  pub recorded : Recorded
  pub run : IsNamedRun asked.schedule file bytes text recorded sided.names
  pub measured : List Row
  pub measured_are : AreMeasured asked.typical sided.names.defs.items recorded.rows measured
  pub side : IsSideTold asked measured sided.names sided.side
  pub named : TellsNamed file text sided.named
  pub noted : AreWanted asked.quiet (λ told. told ≡ notes_of_rows (texts_of sided.names.rows.items) recorded.rows) sided.notes.items

-- ---- both sides

-- the two sides stand in what is reported: with names where both have them, and for so many workers
pub record AreCompared (asked : AskedCompare) (before after : Sided) (own : Compared) : Type 0 where
  pub before_is : own.before.now ≡ before.side
  pub before_names_are : own.before_names.now ≡ before.names
  pub after_is : own.after.now ≡ after.side
  pub after_names_are : own.after_names.now ≡ after.names
  pub named_is : own.named ≡ before.named && after.named
  pub typical_is : own.typical ≡ asked.typical
  pub workers_are : own.workers ≡ unwrap_or asked.workers 0

-- the text tells what has changed from one side to the other
pub record IsComparedText (asked : AskedCompare) (before after : Sided) (text : Text) : Type 0 where
  pub own : Compared
  pub are : AreCompared asked before after own
  pub text_is : IsCompareText own text

-- the notes on a side behind a line that says which it is; no text where there are none
abbrev pub notes_of_side : Text → Text → Text
notes_of_side head [] = []
notes_of_side head (byte ∷ notes) = head ++ byte ∷ notes

-- the notes on both sides
abbrev pub AreNotesOf : Sided → Sided → Text → Type 0
AreNotesOf before after notes = notes ≡ notes_of_side (codes "boc: note: in BEFORE:\n") before.notes.items
    ++ notes_of_side (codes "boc: note: in AFTER:\n") after.notes.items

-- what has changed from the run of one input to that of another, and the notes on both
pub record TellsCompare (asked : AskedCompare) (files : CompareFiles) (pair : Pair) (notes input output : Text) : Type 0 where
  pub before : Sided
  pub before_is : IsSided asked files.before_names pair.before_names.items input before
  pub after : Sided
  pub after_is : IsSided asked files.after_names pair.after_names.items pair.after.items after
  pub told : IsComparedText asked before after output
  pub noted : AreNotesOf before after notes

-- ---- what is refused

-- the first input has a run, and the second is refused for this fault
pub record IsOfAfter (always_on : Type 0) (asked : AskedCompare) (files : CompareFiles) (pair : Pair) (input : Text) (fault : Fault) : Type 0 where
  pub recorded : Recorded
  pub names : Names
  pub run : IsNamedRun asked.schedule files.before_names pair.before_names.items input recorded names
  pub refused : IsOfNamedRun always_on asked.schedule files.after_names pair.after_names.items pair.after.items fault

-- one of the inputs is refused for this fault
abbrev pub IsOfSide : Type 0 → AskedCompare → CompareFiles → Pair → Text → Which → Fault → Type 0
IsOfSide always_on asked files pair input Before fault =
    IsOfNamedRun always_on asked.schedule files.before_names pair.before_names.items input fault
IsOfSide always_on asked files pair input After fault = IsOfAfter always_on asked files pair input fault

-- the same, or memory was refused
abbrev pub IsOfCompare : Type 0 → AskedCompare → CompareFiles → Pair → Text → Which → Fault → Type 0
IsOfCompare always_on asked files pair input which (faults.Means wants.Memory) = Unit {0}
IsOfCompare always_on asked files pair input which fault = IsOfSide always_on asked files pair input which fault

-- an input is refused, the first for what was taken of it; want of memory and of a device are no refusal
abbrev pub RefusesCompare : {A : Type 0} → Type 0 → AskedCompare → CompareFiles → Pair → Which → Result A Fault → Option Text → Option Text → Type 0
RefusesCompare always_on asked files pair which (Ok done) before after = Unit {0}
RefusesCompare always_on asked files pair which (Err (faults.Means w)) before after = Unit {0}
RefusesCompare always_on asked files pair which (Err fault) before after =
    (text : Text) × IsTaken before after text × IsOfSide always_on asked files pair text which fault
