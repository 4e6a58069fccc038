-- What a search of all ends answers, and what it refuses.
use Rattle.std.specs.Prelude.{◌≡◌, ℕ, List, Option, Result, Ok, Err}
use Rattle.boc_program.specs.declared.program.Program.{Program}
use Rattle.boc_reader.specs.Spells.{Spells}
use Rattle.boc_all_ends.specs.declared.found.Found.{Found}
use Rattle.boc_all_ends.specs.Ends.{IsFound}
use Rattle.boc_all_ends_report.specs.EndTexts.{ends_text}
use Rattle.boc_run_commands.specs.declared.fault.Fault.{Fault}
use Rattle.boc_run_commands.specs.declared.fault.Fault.TheVariants as faults
use Rattle.boc_run_commands.specs.declared.fault.InputFault.TheVariants as inputs
use Rattle.boc_run_commands.specs.declared.fault.Want.TheVariants as wants
use Rattle.boc_run_commands.specs.Commands.{IsWrongWith, TakesText}
use Rattle.boc_run_commands.specs.Faults.{IsWant}

-- The input spells a program, and the output tells the ends of its whole runs: all of them, or where the search looked at as many fronts as it may those of
-- the runs of fewer rows than it tells.
pub record IsAllEndsAnswer (most : ℕ) (input output : List ℕ) : Type 0 where
  pub program : Program
  pub spells : Spells input program
  pub found : Found
  pub ends : IsFound program most found
  pub text : output ≡ ends_text program.cowns found

-- a fault of a search: what is wrong with the program text and where; no device failed
abbrev pub IsOfSearch : List ℕ → Fault → Type 0
IsOfSearch text (faults.Input (inputs.Program r)) = IsWrongWith text r
IsOfSearch text (faults.Means wants.Memory) = Unit {0}
IsOfSearch text _ = ⊥

-- a search is refused for what was taken of the source: a wrong text
abbrev pub RefusesSearch : {A : Type 0} → Result A Fault → Option (List ℕ) → Option (List ℕ) → Type 0
RefusesSearch (Ok done) before after = Unit {0}
RefusesSearch (Err (faults.Input (inputs.Program r))) before after = TakesText (λ text. IsWrongWith text r) before after
RefusesSearch (Err fault) before after = IsWant fault
