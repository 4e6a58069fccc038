-- What is noted of behaviours that ended by a fault, beside what a command answers.
use Rattle.std.specs.Prelude.{◌≡◌, ℕ, ℤ, Bool, true, false, List, [], ◌∷◌, ◌++◌, map, Option, codes}
use Rattle.boc_program.specs.declared.program.Program.{Program}
use Rattle.boc_busy.specs.declared.timed.TimedRows.{TimedRows}
use Rattle.boc_eval.specs.Faulted.{EndsAs, FaultedRow}
use Rattle.boc_reader.specs.Listed.{ListsDefs}
use Rattle.boc_reader.specs.Spells.{Spells}
use Rattle.boc_reader.specs.declared.listing.DefListing.{DefListing}
use Rattle.boc_runs.specs.declared.rows.Row.{Row}
use Rattle.boc_plans.specs.declared.sharing.Sharing.{Sharing}
use Rattle.boc_runs.specs.declared.event.Event.{Event}
use Rattle.boc_runs.specs.Records.{Recorded}
use Rattle.boc_runs.specs.Run.{config_of}
use Rattle.boc_names.specs.Names.{Text, member_text, named_cowns, texts_of}
use Rattle.boc_notes.specs.Notes.{faulted_rows, note_of_behaviour, note_of_row, notes_text}
use Rattle.boc_words.specs.declared.asked.AskedPlans.{AskedPlans}
use Rattle.boc_plans.specs.Seen.{seen}
use Rattle.boc_run_commands.specs.Answers.{IsProfileAnswer, IsValuesAnswer}
use Rattle.boc_run_commands.specs.Beside.{IsValuesAfterAnswer}
use Rattle.boc_run_commands.specs.Promises.{IsRunAnswer, IsTimeAnswer}
use Rattle.boc_run_commands.specs.Schedules.{AreTimesText, IsScheduledText}
use Rattle.boc_run_commands.specs.TimedAnswers.{times_text}
use Rattle.boc_run_commands.specs.TimedNotes.{IsNoteFor}
use Rattle.boc_words.specs.declared.schedule.Schedule.{Schedule}

-- ---- the notes

-- where quiet is wanted there are no notes, and else they are such
abbrev pub AreWanted : Bool → (Text → Type 0) → Text → Type 0
AreWanted true AreNotes notes = notes ≡ []
AreWanted false AreNotes notes = AreNotes notes

-- the notes on rows that are called so: those that ended by a fault
abbrev pub notes_of_rows : List Text → List Row → Text
notes_of_rows called rows = notes_text (map (note_of_row called rows) (faulted_rows rows))

-- what the rows of a run of a program are called, whose defs are called so
abbrev pub run_names : Program → List Text → List Event → List Text
run_names program defs events = map (member_text (codes "main" ∷ defs) (named_cowns program.cowns)) (config_of program events).members

-- the notes on the run of the program that a text spells of which this is the record, its rows called as its behaviours are in the text
pub record AreRunNotes (text : Text) (recorded : Recorded) (notes : Text) : Type 0 where
  pub program : Program
  pub spells : Spells text program
  pub defs : List DefListing
  pub lists : ListsDefs text defs
  pub notes_are : notes ≡ notes_of_rows (run_names program (map (λ d. d.name) defs) recorded.events) recorded.rows

-- the notes on the behaviours of the serial run of the program that a text spells, called as in the text
pub record AreSerialNotes (text notes : Text) : Type 0 where
  pub program : Program
  pub spells : Spells text program
  pub defs : List DefListing
  pub lists : ListsDefs text defs
  pub values : List ℤ
  pub faulted : List FaultedRow
  pub ends : EndsAs program values faulted
  pub notes_are : notes ≡ notes_text (map (note_of_behaviour (codes "main" ∷ map (λ d. d.name) defs) (named_cowns program.cowns)) faulted)

-- ---- what commands tell, the notes and then the answer to an input

-- the values after the serial run, and the notes on it
abbrev pub TellsValues : Bool → Text → Text → Text → Type 0
TellsValues quiet notes input output = IsValuesAnswer input output × AreWanted quiet (AreSerialNotes input) notes

-- the values after the run whose record is in a file, and the notes on it, its rows called as in the program's text
pub record TellsValuesAfter (beside : Text) (quiet : Bool) (notes input output : Text) : Type 0 where
  pub answer : IsValuesAfterAnswer beside input output
  pub noted : AreWanted quiet (AreRunNotes input answer.recorded) notes

-- the record of a run by this schedule, which is that drawn by a seed where that was asked for, and the notes on it, its rows called as in the program's
-- text
pub record TellsRun (schedule : Schedule) (quiet : Bool) (notes input output : Text) : Type 0 where
  pub answer : IsRunAnswer input output
  pub scheduled : IsScheduledText input schedule answer.recorded
  pub noted : AreWanted quiet (AreRunNotes input answer.recorded) notes

-- the report on such a run, and behind it when its rows ran, where ticks are time, which is a schedule that ends in time; and the same notes on it
pub record TellsTime (schedule : Schedule) (sharing : Sharing) (asked : AskedPlans) (quiet : Bool) (notes input output : Text) : Type 0 where
  pub report : Text
  pub answer : IsTimeAnswer sharing asked input report
  pub times : Option TimedRows
  pub times_are : AreTimesText input schedule answer.recorded.rows times
  pub text : output ≡ report ++ times_text asked.unplanned times
  pub scheduled : IsScheduledText input schedule answer.recorded
  pub noted : AreWanted quiet (AreRunNotes input answer.recorded) notes

-- the report on a record, and the notes on its rows, which have no names
pub record TellsProfile (sharing : Sharing) (asked : AskedPlans) (quiet : Bool) (notes input output : Text) : Type 0 where
  pub answer : IsProfileAnswer sharing asked input output
  pub noted : AreWanted quiet (λ told. told ≡ notes_of_rows [] answer.recorded.rows) notes

-- the notes on rows that are called so, and behind them the one on the span of the timed run by so many workers with which theirs is compared, if it is
pub record AreWhyNotes (sharing : Sharing) (compared : Option ℕ) (input : Text) (called : List Text) (rows : List Row) (notes : Text) : Type 0 where
  pub other : Text
  pub other_is : IsNoteFor input compared sharing rows other
  pub notes_are : notes ≡ notes_of_rows called rows ++ other
