-- What is promised of a run of a program, and of the plans of its rows.
use Rattle.std.specs.Prelude.{◌≡◌, ℕ, ◌+◌, ◌/◌, ◌<◌, ◌≤◌, Bool, List, length, Option, Some, None}
use Rattle.boc_plans.specs.declared.chain.ChainStep.{ChainStep}
use Rattle.boc_program.specs.declared.program.Program.{Program}
use Rattle.boc_runs.specs.declared.rows.Row.{Row}
use Rattle.boc_plans.specs.declared.sharing.Sharing.{Sharing}
use Rattle.boc_plans.specs.Seen.{seen}
use Rattle.boc_reader.specs.Spells.{Spells}
use Rattle.boc_record.specs.RecordTexts.{Second, record_text}
use Rattle.boc_runs.specs.Records.{Recorded, IsRecord, IsRecordOf}
use Rattle.boc_runs.specs.machine.AlongRows.{EndsSerially}
use Rattle.boc_plans.specs.Plans.{Keeps, IsEnd, NoneEndsBefore, start_of, work_of}
use Rattle.boc_plans.specs.Chains.{IsChain, weight_of}
use Rattle.boc_plans.specs.Greedy.{IsForWorkers, IsSpan}
use Rattle.boc_run_commands.specs.Answers.{IsReport, IsPartFor}
use Rattle.boc_words.specs.declared.asked.AskedPlans.{AskedPlans}

-- ---- the run

-- the record of a whole run of a program by the rule of runs, and of no other rows; each row ended as it does in the serial run along the rows
pub record IsRunOf (program : Program) (recorded : Recorded) : Type 0 where
  pub run : IsRecordOf program recorded
  pub whole : IsRecord recorded
  pub ends : EndsSerially program recorded.events

-- a text spells a program of which this is the record of a run
pub record IsRunOfText (text : List ℕ) (recorded : Recorded) : Type 0 where
  pub program : Program
  pub spells : Spells text program
  pub run : IsRunOf program recorded

-- the output is the text of the record of a run of the program that the input spells
pub record IsRunAnswer (input output : List ℕ) : Type 0 where
  pub recorded : Recorded
  pub run : IsRunOfText input recorded
  pub text : output ≡ record_text Second recorded.cowns recorded.events

-- ---- the plans of its rows

-- The plan keeps the spawn points and the cown orders of the rows, and of all plans that keep them none starts a row earlier. Its end, which
-- is the span, is what the chain weighs; none that keeps them ends sooner.
pub record IsBest (rows : List Row) (plan : List ℕ) (chain : List ChainStep) (span : ℕ) : Type 0 where
  pub keeps : Keeps rows plan
  pub no_earlier : (other : List ℕ) → Keeps rows other → (r : ℕ) → r < length rows → start_of plan r ≤ start_of other r
  pub ends : IsEnd rows plan span
  pub is_chain : IsChain rows chain
  pub weight : weight_of chain ≡ span
  pub no_sooner : NoneEndsBefore rows span

-- The plan for p workers keeps them too, no worker has two rows at one tick, and it has ended by the work divided by p, and the span.
pub record IsWithinBound (rows : List Row) (p : ℕ) (plan workers : List ℕ) (last : ℕ) : Type 0 where
  pub keeps : Keeps rows plan
  pub for_workers : IsForWorkers rows p plan workers
  pub ends : IsEnd rows plan last
  pub within : (span : ℕ) → IsSpan rows span → last ≤ work_of rows / p + span

-- the greedy part of a report is so, where it was asked for
abbrev pub PartIsWithinBound : (rows : List Row) (unplanned : Bool) (workers : Option ℕ) (part : List ℕ) → IsPartFor rows unplanned workers part → Type 0
PartIsWithinBound rows unplanned None part none = Unit {0}
PartIsWithinBound rows unplanned (Some p) part greedy = IsWithinBound rows p greedy.starts greedy.workers greedy.last

-- the report on some rows: its plan, its chain and its span are the best, and its greedy plan ends within its bound
pub record IsTrueReport (rows : List Row) (asked : AskedPlans) (output : List ℕ) : Type 0 where
  pub report : IsReport rows asked output
  pub best : IsBest rows report.starts report.steps report.span
  pub greedy : PartIsWithinBound rows asked.unplanned asked.workers report.part report.part_is

-- ---- both

-- The input spells a program; the recorded run, in whatever order its threads made their steps, is a run of it by the rule of runs, in which
-- cowns are exclusive; and the output is the report on its rows, as they share cowns in the way that was asked for. The plan that is reported
-- keeps the run's spawn points and cown orders, and every plan that keeps them starts no row earlier and ends no sooner; its end, the span that is
-- reported and the reported chain's ticks are one number; and the greedy plan for p workers ends within the work divided by p, and the span.
pub record IsTimeAnswer (sharing : Sharing) (asked : AskedPlans) (input output : List ℕ) : Type 0 where
  pub recorded : Recorded
  pub run : IsRunOfText input recorded
  pub report : IsTrueReport (seen sharing recorded.rows) asked output
