-- What the command `sweep` answers to a program or to a record, with names.
use Rattle.std.specs.Prelude.{◌≡◌, ◌+◌, ◌⊎◌, ℕ, suc, Bool, true, false, List, [], ◌∷◌, ◌++◌, length, Option, Some, None, Result, is_some, codes, decimal}
use Rattle.boc_runs.specs.declared.rows.Row.{Row}
use Rattle.boc_runs.specs.Records.{Recorded}
use Rattle.boc_names.specs.declared.names.Names.{Names}
use Rattle.boc_names.specs.Names.{Text, text_at, texts_of}
use Rattle.boc_plans.specs.Seen.{seen}
use Rattle.boc_plans.specs.declared.sweep.Sweep.{Sweep}
use Rattle.boc_plans.specs.declared.sweep.Sweep.TheVariants.{Ticks, Cowns, Spawns}
use Rattle.boc_why.specs.declared.ranking.Placed.{Placed}
use Rattle.boc_words.specs.declared.asked.AskedSweep.{AskedSweep}
use Rattle.boc_run_commands.specs.declared.fault.Fault.{Fault}
use Rattle.boc_plan_commands.specs.declared.program_input.Supplied.{Supplied}
use Rattle.boc_plan_commands.specs.declared.program_input.Supplied.TheVariants.{Names as NamesFile}
use Rattle.boc_run_commands.specs.Answers.{AreSwept, IsSweepAnswer, first_of}
use Rattle.boc_plan_commands.specs.BestAnswers.{AreBest, IsBestAnswer, IsUnswept, gains_text}
use Rattle.boc_run_commands.specs.Commands.{RefusesRecord}
use Rattle.boc_run_commands.specs.Measured.{AreMeasured}
use Rattle.boc_run_commands.specs.NamedRuns.{AreRenamed, IsRecordNumbered, RefusesRenamed}
use Rattle.boc_plan_commands.specs.ProgramInputs.{IsProgramRun}

-- ---- lines with names

-- what the row or the cown with this number is called, behind a space; nothing where no names are told
abbrev pub name_part : Option (List Text) → ℕ → List ℕ
name_part None number = []
name_part (Some called) number = codes " " ++ text_at called number

-- the line of an end: its number, the end, and its name
abbrev pub end_line : Option (List Text) → ℕ → ℕ → List ℕ
end_line called number end = decimal number ++ codes " " ++ decimal end ++ name_part called number ++ codes "\n"

-- the lines of all ends from this number on
abbrev pub lines_text : ℕ → Option (List Text) → List ℕ → List ℕ
lines_text number called [] = []
lines_text number called (end ∷ ends) = end_line called number end ++ lines_text (suc number) called ends

-- the line of one of the best ends: with by how much it is sooner than it was
abbrev pub gain_line : ℕ → Option (List Text) → ℕ → ℕ → List ℕ
gain_line was called number end = gains_text was number end ++ name_part called number ++ codes "\n"

-- the lines of such ends, by their places behind the first number
abbrev pub best_text : ℕ → ℕ → Option (List Text) → List Placed → List ℕ
best_text was first called [] = []
best_text was first called (p ∷ placed) = gain_line was called (first + p.place) p.span ++ best_text was first called placed

-- what the rows or the cowns that a sweep is over are called, where that is told
abbrev pub called_of : Names → Sweep → Bool → Option (List Text)
called_of names over false = None
called_of names (Cowns workers) true = Some (texts_of names.cowns.items)
called_of names (Ticks workers) true = Some (texts_of names.rows.items)
called_of names Spawns true = Some (texts_of names.rows.items)

-- ---- a sweep over rows that have names

-- the output tells all ends of a sweep over rows with so many cowns
pub record AreAllTold (rows : List Row) (count : ℕ) (over : Sweep) (called : Option (List Text)) (output : List ℕ) : Type 0 where
  pub ends : List ℕ
  pub sweep : AreSwept rows count over ends
  pub text : output ≡ lines_text (first_of over) called ends

-- the output tells the best of them, so many at the most
pub record AreBestTold (rows : List Row) (count : ℕ) (over : Sweep) (most : ℕ) (called : Option (List Text)) (output : List ℕ) : Type 0 where
  pub ends : List ℕ
  pub sweep : AreSwept rows count over ends
  pub was : ℕ
  pub was_is : IsUnswept rows over was
  pub best : List Placed
  pub best_are : AreBest ends most best
  pub text : output ≡ best_text was (first_of over) called best

-- the output tells what was asked for of a sweep over these rows
abbrev pub AreTold : List Row → ℕ → Sweep → Option ℕ → Option (List Text) → List ℕ → Type 0
AreTold rows count over None called output = AreAllTold rows count over called output
AreTold rows count over (Some most) called output = AreBestTold rows count over most called output

-- and of rows as they are seen, in these names
abbrev pub IsAskedSweep : List Row → Names → AskedSweep → Bool → List ℕ → Type 0
IsAskedSweep rows names asked are_named output =
    AreTold rows (length names.families.items) asked.over asked.best (called_of names asked.over are_named) output

-- and of rows as they are
abbrev pub IsSwept : List Row → Names → AskedSweep → Bool → List ℕ → Type 0
IsSwept rows names asked are_named output = IsAskedSweep (seen asked.sharing rows) names asked are_named output

-- ---- the command

-- names are told of a program where the best ends alone are, or where they come from a file
abbrev pub are_named : AskedSweep → Supplied → Bool
are_named asked NamesFile = true
are_named asked _ = is_some asked.best

-- the input is the text of a record, whose rows and cowns have the names that a file gives them, and the output tells of a sweep over its rows
pub record IsNamedSweep (asked : AskedSweep) (file input output : List ℕ) : Type 0 where
  pub recorded : Recorded
  pub names : Names
  pub named : AreRenamed (λ base. IsRecordNumbered input recorded base) file names
  pub measured : List Row
  pub measured_are : AreMeasured asked.typical names.defs.items recorded.rows measured
  pub told : IsSwept measured names asked true output

-- the input spells a program, and the output tells of a sweep over the rows of its run
pub record IsProgramSweep (asked : AskedSweep) (supplied : Supplied) (file input output : List ℕ) : Type 0 where
  pub recorded : Recorded
  pub names : Names
  pub run : IsProgramRun asked.schedule supplied file input recorded names
  pub measured : List Row
  pub measured_are : AreMeasured asked.typical names.defs.items recorded.rows measured
  pub told : IsSwept measured names asked (are_named asked supplied) output

-- the output tells all ends of a sweep over the rows of a record by their numbers alone, or the best of them
abbrev pub IsNumberedSweep : AskedSweep → Option ℕ → List ℕ → List ℕ → Type 0
IsNumberedSweep asked None input output = IsSweepAnswer asked.sharing asked.over input output
IsNumberedSweep asked (Some most) input output = IsBestAnswer asked.sharing asked.over most input output

-- the output tells of a sweep over the rows of a record
abbrev pub IsRecordSweep : AskedSweep → Supplied → List ℕ → List ℕ → List ℕ → Type 0
IsRecordSweep asked NamesFile file input output = IsNamedSweep asked file input output
IsRecordSweep asked _ file input output = IsNumberedSweep asked asked.best input output

-- the output tells of a sweep over the rows of a record, or of the run of a program
abbrev pub AnswersSweep : AskedSweep → Supplied → List ℕ → List ℕ → List ℕ → Type 0
AnswersSweep asked supplied file input output = IsRecordSweep asked supplied file input output ⊎ IsProgramSweep asked supplied file input output

-- the text of a record is refused, and then the file of names, where there is one
abbrev pub RefusesSweep : {A : Type 0} → Supplied → List ℕ → Result A Fault → Option (List ℕ) → Type 0
RefusesSweep NamesFile file result before = RefusesRenamed file result before
RefusesSweep _ file result before = RefusesRecord result before
