-- The runs that seeds draw, their numbers, and what is tried in them.
use Rattle.std.specs.Prelude.{◌≡◌, ℕ, ◌+◌, ◌<◌, List, [], ◌∷◌, ◌++◌, length, map, ℤ, pos, ◌-ℤ◌, Option, Some, Result, Ok, Err, slice_get}
use Rattle.std.specs.declared.alloc.Global.{Global}
use Rattle.std.specs.declared.vec.Vec.{Vec}
use Rattle.boc_program.specs.declared.program.Program.{Program}
use Rattle.boc_runs.specs.declared.rows.Row.{Row}
use Rattle.boc_runs.specs.Rows.{IsRows}
use Rattle.boc_runs.specs.Run.{Member, config_of}
use Rattle.boc_plans.specs.declared.sharing.Sharing.{Sharing}
use Rattle.boc_plans.specs.Greedy.{IsSpan}
use Rattle.boc_plans.specs.Plans.{work_of}
use Rattle.boc_plans.specs.Seen.{seen}
use Rattle.boc_draws.specs.declared.drawing.Drawn.{Drawn}
use Rattle.boc_draws.specs.declared.fault.DrawFault.{DrawFault}
use Rattle.boc_draws.specs.declared.fault.DrawFault.TheVariants as faults
use Rattle.boc_draws.specs.declared.way.Way.TheVariants.{Uniform}
use Rattle.boc_draws.specs.Draws.{IsDraw}
use Rattle.boc_eager.specs.declared.plan.Eager.{Eager}
use Rattle.boc_eager.specs.Eager.{IsEagerPlanOf}
use Rattle.boc_why.specs.declared.why.Why.{Why}
use Rattle.boc_why.specs.Why.{IsWhy}
use Rattle.boc_remedies.specs.declared.ends.Ends.{Ends}
use Rattle.boc_remedies.specs.declared.greedy_why.GreedyWhy.{GreedyWhy}
use Rattle.boc_remedies.specs.declared.remedy.Remedy.{Remedy}
use Rattle.boc_remedies.specs.Chains.{AreChains, Known}
use Rattle.boc_remedies.specs.Ends.{AreEnds, AreEndsAfter, judged}
use Rattle.boc_remedies.specs.Questions.{Asked as Question}
use Rattle.boc_remedies.specs.Steps.{IsGreedyAsked}
use Rattle.boc_remedies.specs.Tried.{tried}
use Rattle.boc_outcomes.specs.declared.asked.Asked.{Asked}
use Rattle.boc_outcomes.specs.Samples.{EndsBy, seed_of}
use Rattle.boc_many_runs.specs.declared.drawn.Run.{Run}
use Rattle.boc_many_runs.specs.declared.judging.Judging.{Judging}
use Rattle.boc_many_runs.specs.declared.seen.Numbers.{Numbers}
use Rattle.boc_many_runs.specs.declared.seen.Seen.{Seen}
use Rattle.boc_many_runs.specs.declared.seen.Which.{Which}
use Rattle.boc_many_runs.specs.declared.seen.Which.TheVariants.{Rows, Work, Span, End, Order}

-- ---- what is drawn

-- the rows of a run, and the def of each
pub record Rowed : Type 0 where
  pub rows : List Row
  pub defs : List ℕ

-- the same of a run as it is kept
abbrev pub rowed : Run → Rowed
rowed run = record { rows = run.rows; defs = run.defs.items }

-- the rows, which have the shape of a record's, and the def of each, of what was drawn of a program
pub record IsRowed (p : Program) (drawn : Drawn) (run : Rowed) : Type 0 where
  pub rows_are : run.rows ≡ drawn.record.rows
  pub shape : IsRows run.rows
  pub defs_are : run.defs ≡ map (λ (m : Member). m.behaviour.kind) (config_of p drawn.record.events).members

-- The run of this number, counted from 0: its seed is as much greater than the first one, as many workers are picked in the way that is asked for, and these
-- are its rows.
pub record IsRunOf (p : Program) (asked : Asked) (number : ℕ) (run : Rowed) : Type 0 where
  pub drawn : Drawn
  pub is_draw : IsDraw p asked.workers asked.way (seed_of asked.seed number) (Ok drawn)
  pub is_rowed : IsRowed p drawn run

-- what a draw answers: the run of this number, or its fault
abbrev pub IsRunDrawn : Program → Asked → ℕ → Result Run DrawFault → Type 0
IsRunDrawn p asked number (Ok run) = IsRunOf p asked number (rowed run)
IsRunDrawn p asked number (Err fault) = EndsBy p asked number fault

-- ---- rounds

-- what is so of the runs from one number on, up to another one, in their order
pub record AreBetween {Y : Type 0} (Is : ℕ → Y → Type 0) (from to : ℕ) (all : List Y) : Type 0 where
  pub whole : from + length all ≡ to
  pub at : (k : ℕ) (own : Y) → slice_get all k ≡ Some own → Is (from + k) own

-- what they answer, where each answers so: what all of them do; or one of them had no room for a behaviour; unless memory was refused
abbrev pub IsRound : {Y : Type 0} → (ℕ → Result Y DrawFault → Type 0) → ℕ → ℕ → Result (Vec Y Global) DrawFault → Type 0
IsRound Answers from to (Ok all) = AreBetween (λ number own. Answers number (Ok own)) from to all.items
IsRound Answers from to (Err faults.Behaviours) = (number : ℕ) × (number < to) × Answers number (Err faults.Behaviours)
IsRound Answers from to (Err faults.Memory) = Unit {0}

-- ---- how runs are judged

-- the family of each cown, how rows share cowns in plans, and for how many workers greedy plans are made, if for any
pub record Manner : Type 0 where
  pub families : List ℕ
  pub sharing : Sharing
  pub workers : Option ℕ

abbrev pub manner : Judging → Manner
manner judging = record { families = judging.families.now; sharing = judging.sharing; workers = judging.workers }

-- what is asked of a run
abbrev pub question_of : Manner → Rowed → Question
question_of m run = record { rows = run.rows; defs = run.defs; families = m.families; sharing = m.sharing; workers = m.workers }

-- ---- the numbers of a run

-- How many rows there are, their work, their span, the end by which they are judged, and the end of their eager plan, planned from nothing.
pub record AreNumbersOf (question : Question) (n : Numbers) : Type 0 where
  pub rows : n.rows ≡ length question.rows
  pub work : n.work ≡ work_of question.rows
  pub ends : Ends
  pub ends_are : AreEnds (seen question.sharing question.rows) question.workers ends
  pub span : n.span ≡ ends.span
  pub end : n.end ≡ judged ends
  pub eager : Eager
  pub is_eager : IsEagerPlanOf (seen question.sharing question.rows) eager
  pub order : n.order ≡ eager.end

-- the numbers of the run of this number
pub record AreNumbersIn (p : Program) (asked : Asked) (m : Manner) (number : ℕ) (n : Numbers) : Type 0 where
  pub run : Rowed
  pub is_run : IsRunOf p asked number run
  pub are : AreNumbersOf (question_of m run) n

-- what is answered of the run of this number
abbrev pub AreNumbersDrawn : Program → Asked → Manner → ℕ → Result Numbers DrawFault → Type 0
AreNumbersDrawn p asked m number (Ok n) = AreNumbersIn p asked m number n
AreNumbersDrawn p asked m number (Err fault) = EndsBy p asked number fault

-- the same of the first so many runs, in their order
pub record AreNumbersOfRuns (p : Program) (asked : Asked) (m : Manner) (count : ℕ) (all : List Numbers) : Type 0 where
  pub long : length all ≡ count
  pub at : (number : ℕ) (n : Numbers) → slice_get all number ≡ Some n → AreNumbersIn p asked m number n

-- one of the numbers of a run
abbrev pub number_of : Which → Numbers → ℕ
number_of Rows n = n.rows
number_of Work n = n.work
number_of Span n = n.span
number_of End n = n.end
number_of Order n = n.order

-- what is tried in a run: what is tried for its chains
pub record AreTriedIn (question : Question) (remedies : List Remedy) : Type 0 where
  pub why : Why
  pub is_why : IsWhy question.rows question.sharing question.defs (length question.families) why
  pub greedy : Option GreedyWhy
  pub is_greedy : IsGreedyAsked question question.workers greedy
  pub chains : List Known
  pub chains_are : AreChains question.families why greedy chains
  pub are : remedies ≡ tried question.families chains

-- the numbers of a run, and what is tried in it
pub record Found : Type 0 where
  pub numbers : Numbers
  pub tried : List Remedy

-- the same as it is kept
abbrev pub found : Seen → Found
found s = record { numbers = s.numbers; tried = s.tried.items }

pub record IsFound (question : Question) (f : Found) : Type 0 where
  pub numbers : AreNumbersOf question f.numbers
  pub tried : AreTriedIn question f.tried

-- the numbers of the run of this number, and what is tried in it
pub record IsFoundIn (p : Program) (asked : Asked) (m : Manner) (number : ℕ) (f : Found) : Type 0 where
  pub run : Rowed
  pub is_run : IsRunOf p asked number run
  pub is_found : IsFound (question_of m run) f

-- what is answered of the run of this number
abbrev pub IsSeen : Program → Asked → Manner → ℕ → Result Seen DrawFault → Type 0
IsSeen p asked m number (Ok s) = IsFoundIn p asked m number (found s)
IsSeen p asked m number (Err fault) = EndsBy p asked number fault

-- the same of the first so many runs, in their order
pub record AreFound (p : Program) (asked : Asked) (m : Manner) (count : ℕ) (all : List Found) : Type 0 where
  pub long : length all ≡ count
  pub at : (number : ℕ) (f : Found) → slice_get all number ≡ Some f → IsFoundIn p asked m number f

-- ---- what remedies bring in a run

-- What a remedy brings: by how much sooner the rows end with it, by the end by which they are judged, where both are planned from nothing. It is less than 0
-- where they end later.
pub record Brings (question : Question) (remedy : Remedy) (less : ℤ) : Type 0 where
  pub now : Ends
  pub now_are : AreEnds (seen question.sharing question.rows) question.workers now
  pub left : Ends
  pub left_are : AreEndsAfter question remedy left
  pub is : less ≡ pos (judged now) -ℤ pos (judged left)

-- what each of some remedies brings
pub record AreBroughtBy (question : Question) (remedies : List Remedy) (all : List ℤ) : Type 0 where
  pub long : length all ≡ length remedies
  pub at : (place : ℕ) (remedy : Remedy) (less : ℤ) → slice_get remedies place ≡ Some remedy → slice_get all place ≡ Some less
      → Brings question remedy less

-- what each of some remedies brings in the run of this number
pub record AreBroughtIn (p : Program) (asked : Asked) (m : Manner) (remedies : List Remedy) (number : ℕ) (all : List ℤ) : Type 0 where
  pub run : Rowed
  pub is_run : IsRunOf p asked number run
  pub are : AreBroughtBy (question_of m run) remedies all

-- what is answered of the run of this number
abbrev pub AreBrought : Program → Asked → Manner → List Remedy → ℕ → Result (Vec ℤ Global) DrawFault → Type 0
AreBrought p asked m remedies number (Ok all) = AreBroughtIn p asked m remedies number all.items
AreBrought p asked m remedies number (Err fault) = EndsBy p asked number fault

-- what a remedy brings in the run of this number
pub record BringsIn (p : Program) (asked : Asked) (m : Manner) (number : ℕ) (remedy : Remedy) (less : ℤ) : Type 0 where
  pub run : Rowed
  pub is_run : IsRunOf p asked number run
  pub brings : Brings (question_of m run) remedy less

-- columns with what each remedy brings in one more run
abbrev pub pushed : List (List ℤ) → List ℤ → List (List ℤ)
pushed [] less = []
pushed (column ∷ columns) [] = column ∷ columns
pushed (column ∷ columns) (own ∷ less) = (column ++ own ∷ []) ∷ pushed columns less

-- For each of some remedies what it brings in each of the first so many runs.
pub record AreColumns (p : Program) (asked : Asked) (m : Manner) (remedies : List Remedy) (count : ℕ) (columns : List (List ℤ)) : Type 0 where
  pub long : length columns ≡ length remedies
  pub each_long : (place : ℕ) (column : List ℤ) → slice_get columns place ≡ Some column → length column ≡ count
  pub at : (place number : ℕ) (remedy : Remedy) (column : List ℤ) (less : ℤ) → slice_get remedies place ≡ Some remedy
      → slice_get columns place ≡ Some column → slice_get column number ≡ Some less → BringsIn p asked m number remedy less

-- ---- the run by one worker

-- the span of the run by one worker
pub record IsSingle (p : Program) (sharing : Sharing) (span : ℕ) : Type 0 where
  pub drawn : Drawn
  pub is_draw : IsDraw p 1 Uniform 0 (Ok drawn)
  pub is_span : IsSpan (seen sharing drawn.record.rows) span

abbrev pub IsSingleDrawn : Program → Sharing → Result ℕ DrawFault → Type 0
IsSingleDrawn p sharing (Ok span) = IsSingle p sharing span
IsSingleDrawn p sharing (Err fault) = IsDraw p 1 Uniform 0 (Err fault)
