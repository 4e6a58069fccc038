-- What commands tell of the plans of a run: the answer to an input, and the notes beside it.
use Rattle.std.specs.Prelude.{◌≡◌, ◌⊎◌, ℕ, List, Option}
use Rattle.boc_runs.specs.declared.rows.Row.{Row}
use Rattle.boc_runs.specs.Records.{Recorded}
use Rattle.boc_names.specs.Names.{Text, texts_of}
use Rattle.boc_names.specs.declared.names.Names.{Names}
use Rattle.boc_plans.specs.Seen.{seen}
use Rattle.boc_words.specs.declared.asked.AskedCowns.{AskedCowns}
use Rattle.boc_words.specs.declared.asked.AskedProfile.{AskedProfile}
use Rattle.boc_words.specs.declared.asked.AskedWhy.{AskedWhy}
use Rattle.boc_words.specs.declared.asked.RunFile.{RunFile}
use Rattle.boc_run_commands.specs.Answers.{IsReport}
use Rattle.boc_run_commands.specs.Measured.{AreMeasured, workers_measured}
use Rattle.boc_run_commands.specs.Notes.{AreWanted, TellsProfile, notes_of_rows}
use Rattle.boc_run_commands.specs.TimedNotes.{workers_compared}
use Rattle.boc_plan_commands.specs.declared.program_input.Supplied.{Supplied}
use Rattle.boc_plan_commands.specs.CownsAnswers.{IsCownsAnswer}
use Rattle.boc_plan_commands.specs.LongNotes.{ArePlanNotes}
use Rattle.boc_plan_commands.specs.ProgramInputs.{IsProgramRun}
use Rattle.boc_plan_commands.specs.WhyAnswers.{IsWhyAnswer}

-- the report on the run of a program, and the notes on its rows, by their names
pub record TellsProgramProfile (asked : AskedProfile) (supplied : Supplied) (file notes input output : Text) : Type 0 where
  pub recorded : Recorded
  pub names : Names
  pub run : IsProgramRun asked.schedule supplied file input recorded names
  pub measured : List Row
  pub measured_are : AreMeasured asked.typical names.defs.items recorded.rows measured
  pub report : IsReport (seen asked.sharing measured) asked.plans output
  pub noted : AreWanted asked.quiet (λ told. told ≡ notes_of_rows (texts_of names.rows.items) recorded.rows) notes

-- the report on a record, or on the run of a program
abbrev pub TellsProfileOf : AskedProfile → Supplied → Text → Text → Text → Text → Type 0
TellsProfileOf asked supplied file notes input output =
    TellsProfile asked.sharing asked.plans asked.quiet notes input output ⊎ TellsProgramProfile asked supplied file notes input output

-- why the rows of a run take as long as they do, and the notes on them, by their names
pub record TellsWhy (asked : AskedWhy) (file : Option RunFile) (bytes notes input output : Text) : Type 0 where
  pub answer : IsWhyAnswer asked file bytes input output
  pub noted : AreWanted asked.quiet (ArePlanNotes asked.sharing (workers_compared asked.schedule (workers_measured asked.typical asked.workers) file)
      asked.typical input answer.names answer.recorded.rows) notes

-- the cowns of a run, and the same notes on its rows, by their names
pub record TellsCowns (asked : AskedCowns) (file : Option RunFile) (bytes notes input output : Text) : Type 0 where
  pub answer : IsCownsAnswer asked file bytes input output
  pub noted : AreWanted asked.quiet (ArePlanNotes asked.sharing (workers_compared asked.schedule (workers_measured asked.typical asked.workers) file)
      asked.typical input answer.names answer.recorded.rows) notes
