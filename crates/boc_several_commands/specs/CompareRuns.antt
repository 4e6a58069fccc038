-- What `compare` answers where it reports on many runs of two programs, and what it refuses.
use Rattle.std.specs.Prelude.{◌≡◌, ◌+◌, ◌==◌, ℕ, List, [], ◌∷◌, nat_lt, cond, Option, Result, Ok, Err}
use Rattle.boc_program.specs.declared.program.Program.{Program}
use Rattle.boc_reader.specs.Spells.{Spells}
use Rattle.boc_names.specs.Names.{Text}
use Rattle.boc_draws.specs.declared.fault.DrawFault.TheVariants as draws_by
use Rattle.boc_draws.specs.declared.way.Way.{Way}
use Rattle.boc_draws.specs.Ways.{AnswersWay, IsWay}
use Rattle.boc_many_runs.specs.declared.seen.Numbers.{Numbers}
use Rattle.boc_many_runs.specs.Many.{AreNumbersTold}
use Rattle.boc_many_runs.specs.Passes.{HasNoRoomIn}
use Rattle.boc_many_runs.specs.Runs.{AreNumbersOfRuns, Manner}
use Rattle.boc_words.specs.declared.asked.AskedRuns.{AskedRuns}
use Rattle.boc_workers.specs.declared.fault.RunFault.TheVariants as runs
use Rattle.boc_run_commands.specs.declared.fault.Fault.{Fault}
use Rattle.boc_run_commands.specs.declared.fault.Fault.TheVariants as faults
use Rattle.boc_run_commands.specs.declared.fault.InputFault.TheVariants as inputs
use Rattle.boc_run_commands.specs.declared.fault.Want.TheVariants as wants
use Rattle.boc_run_commands.specs.Commands.{IsWrongWith, TakesText}
use Rattle.boc_run_commands.specs.OutcomesAnswers.{drawn_in}
use Rattle.boc_several_commands.specs.RunsTexts.{IsRunsText}
use Rattle.boc_several_commands.specs.declared.compare.Which.{Which}
use Rattle.boc_several_commands.specs.declared.compare.Which.TheVariants.{Before, After}
use Rattle.boc_several_commands.specs.declared.compare_runs.DrawnSide.{DrawnSide}
use Rattle.boc_several_commands.specs.declared.runs_text.RunsCompared.{RunsCompared}

-- ---- one side

-- how the runs of a program are judged of which nothing but numbers is told
abbrev pub judged_by : AskedRuns → Manner
judged_by asked = record { families = []; sharing = asked.sharing; workers = asked.workers }

-- the runs of a program that are asked for, and the numbers of each, in the order of seeds
pub record AreDrawn (program : Program) (asked : AskedRuns) (side : DrawnSide) : Type 0 where
  pub way : Way
  pub is_way : IsWay program asked.draws.workers asked.draws.depth way
  pub asked_are : side.asked ≡ drawn_in asked.draws way
  pub numbers : AreNumbersOfRuns program (drawn_in asked.draws way) (judged_by asked) asked.draws.runs side.numbers.items

-- they are those of the program that a text spells
pub record IsDrawnSide (asked : AskedRuns) (text : Text) (side : DrawnSide) : Type 0 where
  pub program : Program
  pub spells : Spells text program
  pub drawn : AreDrawn program asked side

-- ---- both sides

-- for how many seeds the end by which runs are judged is less after than before, and for how many it is the same
abbrev pub less_count : List Numbers → List Numbers → ℕ
less_count [] after = 0
less_count (b ∷ before) [] = 0
less_count (b ∷ before) (a ∷ after) = cond (nat_lt a.end b.end) (less_count before after + 1) (less_count before after)

abbrev pub same_count : List Numbers → List Numbers → ℕ
same_count [] after = 0
same_count (b ∷ before) [] = 0
same_count (b ∷ before) (a ∷ after) = cond (a.end == b.end) (same_count before after + 1) (same_count before after)

-- what is told of the runs of both: the spread of each number, and for how many seeds the end is less or the same
pub record AreRunsToldOf (asked : AskedRuns) (before after : DrawnSide) (told : RunsCompared) : Type 0 where
  pub asked_are : told.asked ≡ before.asked
  pub workers_are : told.plan_workers ≡ asked.workers
  pub before_are : AreNumbersTold before.numbers.items told.before
  pub after_are : AreNumbersTold after.numbers.items told.after
  pub less_is : told.less ≡ less_count before.numbers.items after.numbers.items
  pub same_is : told.same ≡ same_count before.numbers.items after.numbers.items

pub record AreRunsCompared (asked : AskedRuns) (before after : DrawnSide) (text : Text) : Type 0 where
  pub told : RunsCompared
  pub are : AreRunsToldOf asked before after told
  pub text_is : IsRunsText told text

-- both texts spell programs, and the output tells how their runs compare that the same seeds draw
pub record IsCompareRunsAnswer (asked : AskedRuns) (after_text input output : Text) : Type 0 where
  pub before : DrawnSide
  pub before_is : IsDrawnSide asked input before
  pub after : DrawnSide
  pub after_is : IsDrawnSide asked after_text after
  pub told : AreRunsCompared asked before after output

-- ---- what is refused

-- one of the runs of a program that are asked for has no room for a behaviour, or the one has none by which the steps of a depth are counted
pub data HasNoRoomToCompare (program : Program) (asked : AskedRuns) : Type 0 where
  counting : AnswersWay program asked.draws.workers asked.draws.depth (Err draws_by.Behaviours) → HasNoRoomToCompare program asked
  drawing : (way : Way) → IsWay program asked.draws.workers asked.draws.depth way → HasNoRoomIn program (drawn_in asked.draws way) draws_by.Behaviours
      → HasNoRoomToCompare program asked

-- a fault of the runs of a program: one of them had no room for a behaviour, or memory was refused
abbrev pub IsOfDrawing : Program → AskedRuns → Fault → Type 0
IsOfDrawing program asked (faults.Run runs.Behaviours) = HasNoRoomToCompare program asked
IsOfDrawing program asked (faults.Means wants.Memory) = Unit {0}
IsOfDrawing program asked _ = ⊥

-- the text spells a program of whose runs one had no room for a behaviour
pub record DrawnAreOver (asked : AskedRuns) (text : Text) : Type 0 where
  pub program : Program
  pub spells : Spells text program
  pub over : HasNoRoomToCompare program asked

-- a fault of the runs of a text's program: what is wrong with the text and where, or that one of them had no room for a behaviour; no device failed
abbrev pub IsOfDrawn : AskedRuns → Text → Fault → Type 0
IsOfDrawn asked text (faults.Input (inputs.Program r)) = IsWrongWith text r
IsOfDrawn asked text (faults.Run runs.Behaviours) = DrawnAreOver asked text
IsOfDrawn asked text (faults.Means wants.Memory) = Unit {0}
IsOfDrawn asked text _ = ⊥

-- the first text has such runs, and the second is refused for this fault
pub record IsOfSecond (asked : AskedRuns) (after_text input : Text) (fault : Fault) : Type 0 where
  pub before : DrawnSide
  pub before_is : IsDrawnSide asked input before
  pub refused : IsOfDrawn asked after_text fault

-- one of the texts is refused for this fault
abbrev pub IsOfEither : AskedRuns → Text → Text → Which → Fault → Type 0
IsOfEither asked after_text input Before fault = IsOfDrawn asked input fault
IsOfEither asked after_text input After fault = IsOfSecond asked after_text input fault

-- the same, or memory was refused
abbrev pub IsOfCompareRuns : AskedRuns → Text → Text → Which → Fault → Type 0
IsOfCompareRuns asked after_text input which (faults.Means wants.Memory) = Unit {0}
IsOfCompareRuns asked after_text input which fault = IsOfEither asked after_text input which fault

-- a text is refused, the first for what was taken of it; want of memory and of a device are no refusal
abbrev pub RefusesCompareRuns : {A : Type 0} → AskedRuns → Text → Which → Result A Fault → Option Text → Option Text → Type 0
RefusesCompareRuns asked after_text which (Ok done) before after = Unit {0}
RefusesCompareRuns asked after_text which (Err (faults.Means w)) before after = Unit {0}
RefusesCompareRuns asked after_text which (Err fault) before after =
    TakesText (λ text. IsOfEither asked after_text text which fault) before after
