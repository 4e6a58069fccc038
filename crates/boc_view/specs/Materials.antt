-- What the pictures of a run are made of.
use Rattle.std.specs.Prelude.{◌≡◌, ◌++◌, ◌-◌, ℕ, zero, suc, Bool, true, false, not, List, [], length, codes, decimal, if◌then◌else◌}
use Rattle.std.specs.Prelude.{◌⊎◌, Option, Some, None, Result, Ok, Err, Vec}
use Rattle.std.specs.Global.{Global}
use Rattle.boc_program.specs.declared.limits.TheConstants.{MOST_WORKERS}
use Rattle.boc_runs.specs.declared.rows.Row.{Row}
use Rattle.boc_plans.specs.declared.sharing.Sharing.{Sharing}
use Rattle.boc_plans.specs.Seen.{seen}
use Rattle.boc_greedy.specs.declared.plan.Greedy.{Greedy}
use Rattle.boc_greedy.specs.declared.points.CurvePoint.{CurvePoint}
use Rattle.boc_greedy.specs.Curves.{IsCurve}
use Rattle.boc_greedy.specs.Plans.{IsGreedyPlanOf}
use Rattle.boc_cowns.specs.Hot.{IsHotCowns}
use Rattle.boc_names.specs.declared.names.Names.{Names}
use Rattle.boc_remedies.specs.Advice.{IsAdvised}
use Rattle.boc_remedies.specs.Questions.{Asked}
use Rattle.boc_advice_report.specs.declared.workers.ForWorkers.{ForWorkers}
use Rattle.boc_why_report.specs.WhyTexts.{chain_told}
use Rattle.boc_pictures.specs.Subjects.{IsSubject}
use Rattle.boc_run_commands.specs.declared.named_run.NamedRun.{NamedRun}
use Rattle.boc_plan_commands.specs.CownsAnswers.{AreJudged}
use Rattle.boc_plan_commands.specs.OrderAnswers.{IsOtherOrder}
use Rattle.boc_plan_commands.specs.WhyAnswers.{asked_of}
use Rattle.boc_run_commands.specs.Measured.{IsMeasured, workers_measured}
use Rattle.boc_run_commands.specs.NamedRuns.{BeginsRecord, HasRun, HasTimes, IsNamedRun, IsOfNamedRun, IsTaken}
use Rattle.boc_run_commands.specs.declared.fault.Fault.{Fault}
use Rattle.boc_run_commands.specs.declared.fault.Fault.TheVariants as faults
use Rattle.boc_run_commands.specs.TimedNotes.{IsNoteFor, workers_compared}
use Rattle.boc_words.specs.declared.asked.AskedDraws.{AskedDraws}
use Rattle.boc_words.specs.declared.asked.AskedRuns.{AskedRuns}
use Rattle.boc_view.specs.Lines.{AreLinesFor}
use Rattle.boc_view.specs.Runs.{AreRunsShown, IsOfRunsShown}
use Rattle.boc_view.specs.declared.found.Found.{Found}
use Rattle.boc_view.specs.declared.answer.TheConstants.{MOST_DRAWN}
use Rattle.boc_view.specs.declared.wanted.TheConstants.{PAGE_WORKERS}
use Rattle.boc_view.specs.declared.material.Material.{Material}
use Rattle.boc_view.specs.declared.wanted.Picture.{Picture}
use Rattle.boc_view.specs.declared.wanted.Picture.TheVariants.{Text, Plan, Curve, Page, Trace}
use Rattle.boc_view.specs.declared.wanted.Wanted.{Wanted}

-- ---- what a picture shows

-- whether it shows which worker runs what: in the greedy plan for the workers that are asked for, and in a timed run
abbrev pub shows_workers : Picture → Bool
shows_workers (Text cowns curve) = not curve
shows_workers (Plan cowns) = true
shows_workers Curve = false
shows_workers Page = true
shows_workers Trace = true

-- whether it shows when the greedy plans for 1, 2, 3 and more workers end
abbrev pub shows_curve : Picture → Bool
shows_curve (Text cowns curve) = curve
shows_curve (Plan cowns) = false
shows_curve Curve = true
shows_curve Page = true
shows_curve Trace = false

-- whether it shows why the rows take as long as they do, what would help, and the program
abbrev pub shows_costs : Picture → Bool
shows_costs (Text cowns curve) = false
shows_costs (Plan cowns) = false
shows_costs Curve = false
shows_costs Page = true
shows_costs Trace = false

-- the workers that a page is for: as many as are asked for, and 4 where no number is given
abbrev pub page_workers : Option ℕ → ℕ
page_workers (Some workers) = workers
page_workers None = PAGE_WORKERS

-- the workers whose greedy plan a picture shows, if any, where a number is given or not
abbrev pub workers_for : Picture → Option ℕ → Option ℕ
workers_for (Text cowns curve) workers = if curve then None else workers
workers_for (Plan cowns) workers = workers
workers_for Curve workers = None
workers_for Page workers = Some (page_workers workers)
workers_for Trace workers = workers

-- the workers whose greedy plan is shown, if any
abbrev pub workers_shown : Wanted → Option ℕ
workers_shown wanted = workers_for wanted.picture wanted.workers

-- the runs that seeds draw of the program, if any are shown: judged for the workers that a page is for, and with the sharing that it has
abbrev pub runs_of_draws : Option AskedDraws → ℕ → Sharing → Option AskedRuns
runs_of_draws None workers sharing = None
runs_of_draws (Some draws) workers sharing = Some (record { draws = draws; workers = Some workers; sharing = sharing; quiet = false })

-- those that are wanted
abbrev pub runs_shown : Wanted → Option AskedRuns
runs_shown wanted = runs_of_draws wanted.runs (page_workers wanted.workers) wanted.sharing

-- the most workers of a curve: as many as are asked for, and 64 where no number is given
abbrev pub most_of : Option ℕ → ℕ
most_of (Some workers) = workers
most_of None = MOST_WORKERS

-- the same of a picture: a page has 64
abbrev pub curve_most : Picture → Option ℕ → ℕ
curve_most (Text cowns curve) workers = most_of workers
curve_most (Plan cowns) workers = most_of workers
curve_most Curve workers = most_of workers
curve_most Page workers = MOST_WORKERS
curve_most Trace workers = most_of workers

-- the most workers of the curve that is wanted
abbrev pub curve_workers : Wanted → ℕ
curve_workers wanted = curve_most wanted.picture wanted.workers

-- the note on so many rows, so many more than a drawing is for; none where there are no more
abbrev pub over_text : ℕ → ℕ → List ℕ
over_text zero rows = []
over_text (suc more) rows = codes "boc: note: " ++ decimal rows ++ codes " rows are many for a drawing: see boc-view page\n"

-- the note on a picture of so many rows: only a drawing of plans has one
abbrev pub size_note : Picture → ℕ → List ℕ
size_note (Text cowns curve) rows = []
size_note (Plan cowns) rows = over_text (rows - MOST_DRAWN) rows
size_note Curve rows = []
size_note Page rows = []
size_note Trace rows = []

-- ---- the parts

-- a part is there where it is wanted, and is such a one; and none is there where none is wanted
abbrev pub IsPart : {A : Type 0} → Bool → (A → Type 0) → Option A → Type 0
IsPart true Is (Some part) = Is part
IsPart true Is None = ⊥
IsPart false Is (Some part) = ⊥
IsPart false Is None = Unit {0}

-- the greedy plan of the rows, as plans see them, for so many workers; none where no number is given
abbrev pub IsPlanFor : List Row → Sharing → Option ℕ → Option Greedy → Type 0
IsPlanFor rows sharing (Some workers) (Some plan) = IsGreedyPlanOf (seen sharing rows) workers plan
IsPlanFor rows sharing (Some workers) None = ⊥
IsPlanFor rows sharing None (Some plan) = ⊥
IsPlanFor rows sharing None None = Unit {0}

-- the rows with their defs and families, as they are asked about for so many workers
abbrev pub page_question : List Row → Names → Sharing → ℕ → Asked
page_question rows names sharing workers = asked_of rows names sharing (Some workers)

-- What a page says of rows with these names, for so many workers: why they take as long as they do and what would help, their chain, another order, what the
-- cowns cost, and these in the order of the ends of the greedy plan without them.
pub record IsFound (rows : List Row) (names : Names) (sharing : Sharing) (workers : ℕ) (found : Found) : Type 0 where
  pub advised : IsAdvised (page_question rows names sharing workers) found.advised
  pub chain : found.chain.items ≡ chain_told names false found.advised.why
  pub order : IsOtherOrder (seen sharing rows) found.advised.why.profile.span found.order
  pub hot : IsHotCowns rows sharing (length names.families.items) found.hot
  pub for_workers : ForWorkers
  pub judged : AreJudged (page_question rows names sharing workers) workers found.hot for_workers found.judged.items

-- the bytes of a program's text, where it is wanted; none where it isn't, or where the input is the text of a record
pub record IsProgramShown (is_wanted : Bool) (input shown : List ℕ) : Type 0 where
  pub whole : is_wanted ≡ true → (BeginsRecord input → ⊥) → shown ≡ input
  pub none_wanted : is_wanted ≡ false → shown ≡ []
  pub none_there : BeginsRecord input → shown ≡ []

-- The parts that are made of the rows of a run: what all pictures show of them, as plans see them; the greedy plan; when the rows
-- of a timed run ran; the points of the curve; and what a page says of them.
pub record HasParts (wanted : Wanted) (run : NamedRun) (material : Material) : Type 0 where
  pub subject : IsSubject run.rows run.names wanted.sharing material.subject
  pub greedy : IsPlanFor run.rows wanted.sharing (workers_shown wanted) material.greedy
  pub times : material.times ≡ (if shows_workers wanted.picture then run.times else None)
  pub points : IsPart (shows_curve wanted.picture) (λ (points : Vec CurvePoint Global). IsCurve (seen wanted.sharing run.rows) (curve_workers wanted)
      points.items) material.points
  pub found : IsPart (shows_costs wanted.picture) (IsFound run.rows run.names wanted.sharing (page_workers wanted.workers)) material.found

-- What the picture that is wanted is made of: the run that the input tells of, as the words say it is run, with the file beside it; what is made of its
-- rows, as they are or with typical ticks; the text of the program, and the ticks of its lines; what runs of the program say that seeds draw, if they are
-- asked for; and the note on the span of the timed run with which it is compared, if it is.
pub record IsMaterial (wanted : Wanted) (file input : List ℕ) (material : Material) : Type 0 where
  pub run : NamedRun
  pub has : HasRun (IsNamedRun wanted.schedule wanted.file file input) run
  pub times : HasTimes wanted.schedule wanted.file input run.rows run.times
  pub measured : NamedRun
  pub is_measured : IsMeasured wanted.typical run measured
  pub parts : HasParts wanted measured material
  pub program : IsProgramShown (shows_costs wanted.picture) input material.program.items
  pub lines : AreLinesFor material.program.items measured.rows material.found material.lines.items
  pub runs : AreRunsShown (runs_shown wanted) input material.runs
  pub note : IsNoteFor input (workers_compared wanted.schedule (workers_measured wanted.typical (workers_shown wanted)) wanted.file) wanted.sharing run.rows
      material.note.items

-- ---- what is refused

-- a fault of the runs that are asked for, or of the run that the input tells of and of the file beside it
abbrev pub IsOfPicture : Type 0 → Wanted → List ℕ → List ℕ → Fault → Type 0
IsOfPicture always_on wanted file input fault =
    IsOfRunsShown (runs_shown wanted) input fault ⊎ IsOfNamedRun always_on wanted.schedule wanted.file file input fault

-- an input is refused, for what was taken of it and the file beside it; want of memory and of a device are no refusal
abbrev pub RefusesPicture : {A : Type 0} → Type 0 → Wanted → List ℕ → Result A Fault → Option (List ℕ) → Option (List ℕ) → Type 0
RefusesPicture always_on wanted file (Ok done) before after = Unit {0}
RefusesPicture always_on wanted file (Err (faults.Means w)) before after = Unit {0}
RefusesPicture always_on wanted file (Err fault) before after =
    (input : List ℕ) × IsTaken before after input × IsOfPicture always_on wanted file input fault
