-- What `why` answers where it reports on many runs, and what it refuses.
use Rattle.std.specs.Prelude.{ℕ, List, [], map, Option, Result, Ok, Err}
use Rattle.boc_program.specs.declared.program.Program.{Program}
use Rattle.boc_reader.specs.Spells.{Spells}
use Rattle.boc_reader.specs.Listed.{ListsDefs}
use Rattle.boc_reader.specs.declared.listing.DefListing.{DefListing}
use Rattle.boc_names.specs.declared.names.Names.{Names}
use Rattle.boc_names.specs.Names.{AreNamesOf}
use Rattle.boc_draws.specs.declared.fault.DrawFault.TheVariants as draws_by
use Rattle.boc_draws.specs.declared.way.Way.{Way}
use Rattle.boc_draws.specs.Ways.{AnswersWay, IsWay}
use Rattle.boc_many_runs.specs.declared.many.ManyRuns.{ManyRuns}
use Rattle.boc_many_runs.specs.Many.{AnswersMany}
use Rattle.boc_many_runs.specs.Runs.{Manner}
use Rattle.boc_many_runs_report.specs.declared.told.ManyTold.{ManyTold}
use Rattle.boc_many_runs_report.specs.ManyTexts.{IsManyText}
use Rattle.boc_words.specs.declared.asked.AskedRuns.{AskedRuns}
use Rattle.boc_workers.specs.declared.fault.RunFault.TheVariants as runs
use Rattle.boc_run_commands.specs.declared.fault.Fault.{Fault}
use Rattle.boc_run_commands.specs.declared.fault.Fault.TheVariants as faults
use Rattle.boc_run_commands.specs.declared.fault.InputFault.TheVariants as inputs
use Rattle.boc_run_commands.specs.declared.fault.Want.TheVariants as wants
use Rattle.boc_run_commands.specs.Commands.{IsWrongWith, TakesText}
use Rattle.boc_run_commands.specs.Faults.{IsWant}
use Rattle.boc_run_commands.specs.OutcomesAnswers.{drawn_in}

-- ---- what is told

-- the text spells a program, whose defs and cowns are called as they are in it
pub record IsProgramNamed (text : List ℕ) (program : Program) (names : Names) : Type 0 where
  pub spells : Spells text program
  pub defs : List DefListing
  pub lists : ListsDefs text defs
  pub names_are : AreNamesOf program (map (λ d. d.name) defs) [] names

-- how the runs of a program with these names are judged
abbrev pub judged_in : Names → AskedRuns → Manner
judged_in names asked = record { families = names.families.items; sharing = asked.sharing; workers = asked.workers }

-- what is told of them is what was asked for
abbrev pub told_in : AskedRuns → Way → ManyTold
told_in asked way = record { asked = drawn_in asked.draws way; plan_workers = asked.workers }

-- The runs of a program say so much that are drawn by so many workers, in the way of this depth, by as many seeds from the first one on, and the output tells
-- it. It is of these alone, however many threads share them out.
pub record AreRunsTold (program : Program) (names : Names) (asked : AskedRuns) (many : ManyRuns) (output : List ℕ) : Type 0 where
  pub way : Way
  pub is_way : IsWay program asked.draws.workers asked.draws.depth way
  pub many_are : AnswersMany program (drawn_in asked.draws way) (judged_in names asked) (Ok many)
  pub text : IsManyText names (told_in asked way) many output

-- the input spells a program, its runs say so much, and the output tells it
pub record AreRunsIn (asked : AskedRuns) (input : List ℕ) (many : ManyRuns) (output : List ℕ) : Type 0 where
  pub program : Program
  pub names : Names
  pub named : IsProgramNamed input program names
  pub told : AreRunsTold program names asked many output

-- the output tells what the runs of the program say that the input spells
pub record IsWhyRunsAnswer (asked : AskedRuns) (input output : List ℕ) : Type 0 where
  pub many : ManyRuns
  pub told : AreRunsIn asked input many output

-- ---- what is refused

-- one of the runs that are asked for has no room for a behaviour, or the run by one worker, or the one has none by which the steps of a depth are counted
pub data HasNoRoomForRuns (program : Program) (names : Names) (asked : AskedRuns) : Type 0 where
  counting : AnswersWay program asked.draws.workers asked.draws.depth (Err draws_by.Behaviours) → HasNoRoomForRuns program names asked
  drawing : (way : Way) → IsWay program asked.draws.workers asked.draws.depth way
      → AnswersMany program (drawn_in asked.draws way) (judged_in names asked) (Err draws_by.Behaviours) → HasNoRoomForRuns program names asked

-- a fault of the runs of a program: one of them has no room for a behaviour, or memory was refused
abbrev pub IsOfRunsTold : Program → Names → AskedRuns → Fault → Type 0
IsOfRunsTold program names asked (faults.Run runs.Behaviours) = HasNoRoomForRuns program names asked
IsOfRunsTold program names asked (faults.Means wants.Memory) = Unit {0}
IsOfRunsTold program names asked _ = ⊥

-- the text spells a program of which that holds
pub record RunsAreOver (asked : AskedRuns) (text : List ℕ) : Type 0 where
  pub program : Program
  pub names : Names
  pub named : IsProgramNamed text program names
  pub over : HasNoRoomForRuns program names asked

-- a fault of many runs: what is wrong with the program text and where, or that a run of its program had no room for a behaviour; no device failed
abbrev pub IsOfWhyRuns : AskedRuns → List ℕ → Fault → Type 0
IsOfWhyRuns asked text (faults.Input (inputs.Program r)) = IsWrongWith text r
IsOfWhyRuns asked text (faults.Run runs.Behaviours) = RunsAreOver asked text
IsOfWhyRuns asked text (faults.Means wants.Memory) = Unit {0}
IsOfWhyRuns asked text _ = ⊥

-- many runs are refused for what was taken of the source: a wrong text, or one of whose program a run had no room for a behaviour
abbrev pub RefusesWhyRuns : {A : Type 0} → AskedRuns → Result A Fault → Option (List ℕ) → Option (List ℕ) → Type 0
RefusesWhyRuns asked (Ok done) before after = Unit {0}
RefusesWhyRuns asked (Err (faults.Input (inputs.Program r))) before after = TakesText (λ text. IsWrongWith text r) before after
RefusesWhyRuns asked (Err (faults.Run runs.Behaviours)) before after = TakesText (RunsAreOver asked) before after
RefusesWhyRuns asked (Err fault) before after = IsWant fault
