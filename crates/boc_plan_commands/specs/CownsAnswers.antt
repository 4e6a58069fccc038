-- What the command `cowns` answers.
use Rattle.std.specs.Prelude.{◌≡◌, ℕ, List, length, Option, Some, None}
use Rattle.boc_runs.specs.declared.rows.Row.{Row}
use Rattle.boc_runs.specs.Records.{Recorded}
use Rattle.boc_plans.specs.Plans.{work_of}
use Rattle.boc_plans.specs.Seen.{seen}
use Rattle.boc_plans.specs.Sweeps.{IsGreedyCownSweep, IsGreedyEnd}
use Rattle.boc_names.specs.declared.names.Names.{Names}
use Rattle.boc_cowns.specs.declared.hot.HotCowns.{HotCowns}
use Rattle.boc_cowns.specs.Hot.{IsHotCowns}
use Rattle.boc_advice_report.specs.declared.workers.ForWorkers.{ForWorkers}
use Rattle.boc_remedies.specs.Questions.{Asked}
use Rattle.boc_remedies.specs.Together.{AreCownsTogether}
use Rattle.boc_cowns_report.specs.declared.judged.JudgedCown.{JudgedCown}
use Rattle.boc_cowns_report.specs.declared.told.CownsTold.{CownsTold}
use Rattle.boc_cowns_report.specs.declared.told.JudgedTold.{JudgedTold}
use Rattle.boc_cowns_report.specs.CownsTexts.{IsCownsText}
use Rattle.boc_cowns_report.specs.Judged.{judged_cowns}
use Rattle.boc_words.specs.declared.asked.AskedCowns.{AskedCowns}
use Rattle.boc_words.specs.declared.asked.RunFile.{RunFile}
use Rattle.boc_run_commands.specs.Measured.{AreMeasured}
use Rattle.boc_run_commands.specs.NamedRuns.{IsNamedRun}
use Rattle.boc_plan_commands.specs.OrderAnswers.{IsOtherOrder}
use Rattle.boc_plan_commands.specs.WhyAnswers.{asked_of}

-- what the rows take by p workers, and these cowns in the order of the ends of the greedy plan without them
pub record AreJudged (question : Asked) (p : ℕ) (hot : HotCowns) (workers : ForWorkers) (cowns : List JudgedCown) : Type 0 where
  pub many : workers.p ≡ p
  pub work : workers.work ≡ work_of question.rows
  pub span : workers.span ≡ hot.span
  pub end : IsGreedyEnd (seen question.sharing question.rows) p workers.end
  pub ends : List ℕ
  pub ends_are : IsGreedyCownSweep (seen question.sharing question.rows) p (length question.families) ends
  pub cowns_are : cowns ≡ judged_cowns ends hot.cowns.items

-- the same, where a number of workers was asked for, and else nothing
abbrev pub AreJudgedFor : Asked → HotCowns → Option ℕ → Option JudgedTold → Type 0
AreJudgedFor question hot None judged = judged ≡ None
AreJudgedFor question hot (Some p) None = ⊥
AreJudgedFor question hot (Some p) (Some judged) = AreJudged question p hot judged.workers judged.cowns.now

-- what is told of the cowns is this, each part of it as it must be
pub record AreToldBy (question : Asked) (told : CownsTold) : Type 0 where
  pub is_hot : IsHotCowns question.rows question.sharing (length question.families) told.hot.now
  pub judged : AreJudgedFor question told.hot.now question.workers told.judged
  pub together : AreCownsTogether question told.hot.now.span told.together.now
  pub order : IsOtherOrder (seen question.sharing question.rows) told.hot.now.span told.order

-- what is told, with the cowns as they are judged for p workers in place of what was told of these
pub record IsJudgedText (question : Asked) (p : ℕ) (names : Names) (most : Option ℕ) (told : CownsTold) (text : List ℕ) : Type 0 where
  pub judged : JudgedTold
  pub are : AreJudged question p told.hot.now judged.workers judged.cowns.now
  pub text_is : IsCownsText names question.sharing most
      (record { hot = told.hot; judged = Some judged; together = told.together; order = told.order }) text

-- a text tells of the cowns of these rows, in these names, as the rows share them in the way that was asked for; of so many where a number was, and for so many
-- workers
pub record AreTold (rows : List Row) (names : Names) (asked : AskedCowns) (text : List ℕ) : Type 0 where
  pub told : CownsTold
  pub are : AreToldBy (asked_of rows names asked.sharing asked.workers) told
  pub text_is : IsCownsText names asked.sharing asked.top told text

-- the rows are those of the run that the input tells of, by the schedule that was asked for or with the file beside it, and the output tells of their cowns,
-- with their own ticks or typical ones
pub record IsCownsAnswer (asked : AskedCowns) (file : Option RunFile) (bytes input output : List ℕ) : Type 0 where
  pub recorded : Recorded
  pub names : Names
  pub named : IsNamedRun asked.schedule file bytes input recorded names
  pub measured : List Row
  pub measured_are : AreMeasured asked.typical names.defs.items recorded.rows measured
  pub told : AreTold measured names asked output
