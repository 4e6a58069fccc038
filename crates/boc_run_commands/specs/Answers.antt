-- What the commands answer to the bytes that come in.
use Rattle.std.specs.Prelude.{◌≡◌, ℕ, ℤ, Bool, List, [], ◌++◌, length, Option, Some, None}
use Rattle.boc_program.specs.declared.program.Program.{Program}
use Rattle.boc_reader.specs.Spells.{Spells}
use Rattle.boc_runs.specs.declared.rows.Row.{Row}
use Rattle.boc_plans.specs.declared.chain.ChainStep.{ChainStep}
use Rattle.boc_plans.specs.Plans.{IsEarliest, IsEnd, HasEnds, work_of}
use Rattle.boc_plans.specs.Chains.{IsPicked}
use Rattle.boc_plans.specs.Greedy.{IsGreedy, IsBound, IsSpan}
use Rattle.boc_plans.specs.Sweeps.{IsGreedyCownSweep, IsGreedySweep}
use Rattle.boc_greedy.specs.declared.points.CurvePoint.{CurvePoint}
use Rattle.boc_greedy.specs.Curves.{IsCurve}
use Rattle.boc_runs.specs.OwnOrder.{EndsWith}
use Rattle.boc_plans.specs.declared.sharing.Sharing.{Sharing}
use Rattle.boc_plans.specs.Seen.{seen}
use Rattle.boc_plans.specs.declared.sweep.Sweep.{Sweep}
use Rattle.boc_plans.specs.declared.sweep.Sweep.TheVariants.{Ticks, Cowns, Spawns}
use Rattle.boc_plans.specs.Edits.{IsCownSweep, IsSpawnSweep, IsSweep}
use Rattle.boc_ends_report.specs.ValueTexts.{values_text}
use Rattle.boc_run_commands.specs.CheckTexts.{check_text}
use Rattle.boc_report.specs.Texts.{report_text, greedy_text, curve_text, sweep_lines}
use Rattle.boc_runs.specs.Records.{Recorded}
use Rattle.boc_record.specs.RecordTexts.{IsTextOf}
use Rattle.boc_words.specs.declared.asked.AskedPlans.{AskedPlans}

-- the output is the text of the values at the end of the own order of a program that the input spells
pub record IsValuesAnswer (input output : List ℕ) : Type 0 where
  pub program : Program
  pub spells : Spells input program
  pub values : List ℤ
  pub ends : EndsWith program values
  pub text : output ≡ values_text program.cowns values

-- the input is the text of a record, and the output tells how many rows it has
pub record IsCheckAnswer (input output : List ℕ) : Type 0 where
  pub recorded : Recorded
  pub spells : IsTextOf input recorded
  pub text : output ≡ check_text (length recorded.rows)

-- the text of the greedy part for p workers, without its rows or with them: the greedy plan of the rows, its end, and the bound
pub record IsGreedyPart (rows : List Row) (unplanned : Bool) (p : ℕ) (part : List ℕ) : Type 0 where
  pub starts : List ℕ
  pub workers : List ℕ
  pub greedy : IsGreedy rows p starts workers
  pub ends : List ℕ
  pub ends_are : HasEnds rows starts ends
  pub last : ℕ
  pub last_is : IsEnd rows starts last
  pub bound : ℕ
  pub bound_is : IsBound rows p bound
  pub text : part ≡ greedy_text unplanned p starts ends workers last bound

-- the greedy part for a number of workers, and nothing where there is none
abbrev pub IsPartFor : List Row → Bool → Option ℕ → List ℕ → Type 0
IsPartFor rows unplanned None part = part ≡ []
IsPartFor rows unplanned (Some p) part = IsGreedyPart rows unplanned p part

-- what follows the earliest plan: the greedy part for the number of workers that was asked for, and else nothing
abbrev pub IsAskedPart : List Row → AskedPlans → List ℕ → Type 0
IsAskedPart rows asked part = IsPartFor rows asked.unplanned asked.workers part

-- the text of the report on some rows: their work, the span, the chain that is picked, the earliest plan, unless none is wanted, and the part that was
-- asked for
pub record IsReport (rows : List Row) (asked : AskedPlans) (output : List ℕ) : Type 0 where
  pub starts : List ℕ
  pub earliest : IsEarliest rows starts
  pub ends : List ℕ
  pub ends_are : HasEnds rows starts ends
  pub span : ℕ
  pub span_is : IsEnd rows starts span
  pub steps : List ChainStep
  pub picked : IsPicked rows starts steps
  pub part : List ℕ
  pub part_is : IsAskedPart rows asked part
  pub text : output ≡ report_text asked.unplanned (work_of rows) span steps starts ends ++ part

-- the input is the text of a record, and the output is the report on its rows, as they are seen
pub record IsProfileAnswer (sharing : Sharing) (asked : AskedPlans) (input output : List ℕ) : Type 0 where
  pub recorded : Recorded
  pub spells : IsTextOf input recorded
  pub report : IsReport (seen sharing recorded.rows) asked output

-- the output is the curve of some rows, as they are seen: their work, their span, and for each number of workers up to the most the end of the greedy plan,
-- with the bounds that it lies between
pub record IsCurveTold (sharing : Sharing) (most : ℕ) (rows : List Row) (output : List ℕ) : Type 0 where
  pub span : ℕ
  pub span_is : IsSpan (seen sharing rows) span
  pub points : List CurvePoint
  pub curve : IsCurve (seen sharing rows) most points
  pub text : output ≡ curve_text (work_of rows) span points

-- the input is the text of a record, and the output is the curve of its rows
pub record IsCurveAnswer (sharing : Sharing) (most : ℕ) (input output : List ℕ) : Type 0 where
  pub recorded : Recorded
  pub spells : IsTextOf input recorded
  pub told : IsCurveTold sharing most recorded.rows output

-- what a sweep over rows with so many cowns finds: for each row, cown or spawn the end of a plan in which that one is changed; of the earliest
-- plan, which is the span, or of the greedy plan for the number of workers that was asked for
abbrev pub AreSwept : List Row → ℕ → Sweep → List ℕ → Type 0
AreSwept rows count (Ticks None) ends = IsSweep rows ends
AreSwept rows count (Ticks (Some p)) ends = IsGreedySweep rows p ends
AreSwept rows count (Cowns None) ends = IsCownSweep rows count ends
AreSwept rows count (Cowns (Some p)) ends = IsGreedyCownSweep rows p count ends
AreSwept rows count Spawns ends = IsSpawnSweep rows ends

-- the number of the first line of a sweep: main is spawned by no row
abbrev pub first_of : Sweep → ℕ
first_of Spawns = 1
first_of _ = 0

-- the input is the text of a record, and the output tells these ends for its rows, as they are seen
pub record IsSweepAnswer (sharing : Sharing) (over : Sweep) (input output : List ℕ) : Type 0 where
  pub recorded : Recorded
  pub spells : IsTextOf input recorded
  pub ends : List ℕ
  pub sweep : AreSwept (seen sharing recorded.rows) recorded.cowns over ends
  pub text : output ≡ sweep_lines (first_of over) ends
