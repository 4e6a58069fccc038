-- What the command `why` answers.
use Rattle.std.specs.Prelude.{◌≡◌, ℕ, Bool, List, length, Option, Some, None, option_map}
use Rattle.boc_busy.specs.declared.timed.TimedRows.{TimedRows}
use Rattle.boc_runs.specs.declared.rows.Row.{Row}
use Rattle.boc_runs.specs.Records.{Recorded}
use Rattle.boc_plans.specs.declared.sharing.Sharing.{Sharing}
use Rattle.boc_plans.specs.Plans.{work_of}
use Rattle.boc_plans.specs.Seen.{seen}
use Rattle.boc_names.specs.declared.names.Names.{Names}
use Rattle.boc_why_report.specs.declared.told.TimedEnd.{TimedEnd}
use Rattle.boc_remedies.specs.Questions.{Asked}
use Rattle.boc_remedies.specs.declared.advice.Advised.{Advised}
use Rattle.boc_remedies.specs.Advice.{IsAdvised}
use Rattle.boc_remedies.specs.Ends.{AreEnds}
use Rattle.boc_remedies.specs.Steps.{AreSteps}
use Rattle.boc_advice_report.specs.declared.steps.StepsTold.{StepsTold}
use Rattle.boc_advice_report.specs.declared.told.WhyTold.{WhyTold}
use Rattle.boc_advice_report.specs.StepsTexts.{IsStepsText}
use Rattle.boc_advice_report.specs.WhyTold.{IsWhyText}
use Rattle.boc_words.specs.declared.asked.AskedWhy.{AskedWhy}
use Rattle.boc_words.specs.declared.asked.RunFile.{RunFile}
use Rattle.boc_run_commands.specs.Measured.{AreMeasured, times_measured}
use Rattle.boc_run_commands.specs.NamedRuns.{HasTimes, IsNamedRun}
use Rattle.boc_plan_commands.specs.OrderAnswers.{IsOtherOrder}
use Rattle.boc_run_commands.specs.TimedAnswers.{end_of_times}

-- what is asked of these rows, by their names: they share cowns in the way that was asked for, and are judged for so many workers
abbrev pub asked_of : List Row → Names → Sharing → Option ℕ → Asked
asked_of rows names sharing workers =
    record { rows = rows; defs = names.defs.items; families = names.families.items; sharing = sharing; workers = workers }

-- ---- why the rows take as long as they do

-- what was found of the rows, wherever it stands
abbrev pub advised_of : WhyTold → Advised
advised_of told = record { why = told.why.now; greedy = told.greedy.now; advice = told.advice.now }

-- what is told of why the rows take as long as they do is this, each part of it as it must be
pub record IsWhyToldBy (question : Asked) (timed : Option TimedEnd) (told : WhyTold) : Type 0 where
  pub is_advised : IsAdvised question (advised_of told)
  pub is_order : IsOtherOrder (seen question.sharing question.rows) told.why.now.profile.span told.order
  pub timed_is : told.timed ≡ timed

-- a text tells why the rows take as long as they do, in these names
pub record IsWhyTold (question : Asked) (names : Names) (all : Bool) (timed : Option TimedEnd) (text : List ℕ) : Type 0 where
  pub told : WhyTold
  pub is : IsWhyToldBy question timed told
  pub text_is : IsWhyText names question.sharing all told text

-- ---- one change after another

-- what is told of one change after another is this
pub record AreStepsToldBy (question : Asked) (most : ℕ) (told : StepsTold) : Type 0 where
  pub rows : told.rows ≡ length question.rows
  pub work : told.work ≡ work_of question.rows
  pub now : AreEnds (seen question.sharing question.rows) question.workers told.now
  pub workers : told.workers ≡ question.workers
  pub most_are : told.most ≡ most
  pub steps : AreSteps question most told.steps.now

-- a text tells of one change after another
pub record AreStepsTold (question : Asked) (names : Names) (most : ℕ) (text : List ℕ) : Type 0 where
  pub told : StepsTold
  pub are : AreStepsToldBy question most told
  pub text_is : IsStepsText names told text

-- ---- what is told

-- of one change after another, where so many were asked for, and else of why the rows take as long as they do
abbrev pub IsToldOf : Asked → Names → Bool → Option ℕ → Option TimedEnd → List ℕ → Type 0
IsToldOf question names all None timed text = IsWhyTold question names all timed text
IsToldOf question names all (Some most) timed text = AreStepsTold question names most text

-- a text tells of these rows what was asked for, in these names, and when their run was over, where it is known when they ran
pub record IsTold (rows : List Row) (names : Names) (asked : AskedWhy) (times : Option TimedRows) (text : List ℕ) : Type 0 where
  pub told : IsToldOf (asked_of rows names asked.sharing asked.workers) names asked.all asked.then (option_map end_of_times times) text

-- The rows are those of the run that the input tells of, by the schedule that was asked for or with the file beside it, and the output tells why they take as
-- long as they do, or would with typical ticks. Where ticks are time for a program that was run, it is known when its rows ran, which is a schedule that ends
-- in time.
pub record IsWhyAnswer (asked : AskedWhy) (file : Option RunFile) (bytes input output : List ℕ) : Type 0 where
  pub recorded : Recorded
  pub names : Names
  pub named : IsNamedRun asked.schedule file bytes input recorded names
  pub times : Option TimedRows
  pub times_are : HasTimes asked.schedule file input recorded.rows times
  pub measured : List Row
  pub measured_are : AreMeasured asked.typical names.defs.items recorded.rows measured
  pub told : IsTold measured names asked (times_measured asked.typical times) output
