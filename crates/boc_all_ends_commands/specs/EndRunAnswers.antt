-- What the record of a run to an end is, and what is refused.
use Rattle.std.specs.Prelude.{◌≡◌, ◌-◌, ◌<◌, ℕ, List, length, Option, Some, Result, Ok, Err, slice_get}
use Rattle.boc_program.specs.declared.program.Program.{Program}
use Rattle.boc_reader.specs.Spells.{Spells}
use Rattle.boc_runs.specs.Records.{Recorded, IsRecordOf}
use Rattle.boc_runs.specs.Run.{config_of}
use Rattle.boc_record.specs.RecordTexts.{Second, record_text}
use Rattle.boc_all_ends.specs.declared.found.End.{End}
use Rattle.boc_all_ends.specs.declared.found.Found.{Found}
use Rattle.boc_all_ends.specs.Ends.{IsFound}
use Rattle.boc_run_commands.specs.declared.fault.EndFault.{EndFault}
use Rattle.boc_run_commands.specs.declared.fault.Fault.{Fault}
use Rattle.boc_run_commands.specs.declared.fault.Fault.TheVariants as faults
use Rattle.boc_run_commands.specs.declared.fault.InputFault.TheVariants as inputs
use Rattle.boc_run_commands.specs.declared.fault.Want.TheVariants as wants
use Rattle.boc_run_commands.specs.Commands.{IsWrongWith, TakesText}
use Rattle.boc_run_commands.specs.Faults.{IsWant}

-- The record is one of a run of the program, and the run comes to the end with this number, counted from 1, of those that a search of all ends has found, with
-- the least number of rows.
pub record IsEndRun (most number : ℕ) (p : Program) (r : Recorded) : Type 0 where
  pub found : Found
  pub ends : IsFound p most found
  pub end : End
  pub end_is : slice_get found.all.items (number - 1) ≡ Some end
  pub run : IsRecordOf p r
  pub values_are : (config_of p r.events).values ≡ end.values.items
  pub rows_are : length r.rows ≡ end.least

-- the text spells a program, and the record is one of a run to its end with this number
pub record IsEndRunOfText (most number : ℕ) (text : List ℕ) (r : Recorded) : Type 0 where
  pub program : Program
  pub spells : Spells text program
  pub comes : IsEndRun most number program r

-- the output is the text of such a record
pub record IsEndRunAnswer (most number : ℕ) (input output : List ℕ) : Type 0 where
  pub recorded : Recorded
  pub run : IsEndRunOfText most number input recorded
  pub text : output ≡ record_text Second recorded.cowns recorded.events

-- The text spells a program of which a search of all ends finds fewer than this number: the fault tells both, whether the search was whole, and whether some
-- run needs more rows than there may be.
pub record HasFewerEnds (most number : ℕ) (text : List ℕ) (fault : EndFault) : Type 0 where
  pub program : Program
  pub spells : Spells text program
  pub found : Found
  pub ends : IsFound program most found
  pub fewer : length found.all.items < number
  pub number_is : fault.number ≡ number
  pub found_is : fault.found ≡ length found.all.items
  pub whole_is : fault.whole ≡ found.whole
  pub endless_is : fault.endless ≡ found.endless

-- a fault of a run to an end: what is wrong with the program text and where, or that there are fewer ends; no device failed
abbrev pub IsOfEndRun : ℕ → ℕ → List ℕ → Fault → Type 0
IsOfEndRun most number text (faults.Input (inputs.Program r)) = IsWrongWith text r
IsOfEndRun most number text (faults.End e) = HasFewerEnds most number text e
IsOfEndRun most number text (faults.Means wants.Memory) = Unit {0}
IsOfEndRun most number text _ = ⊥

-- a run to an end is refused for what was taken of the source: a wrong text, or a program with fewer ends
abbrev pub RefusesEndRun : {A : Type 0} → ℕ → ℕ → Result A Fault → Option (List ℕ) → Option (List ℕ) → Type 0
RefusesEndRun most number (Ok done) before after = Unit {0}
RefusesEndRun most number (Err (faults.Input (inputs.Program r))) before after = TakesText (λ text. IsWrongWith text r) before after
RefusesEndRun most number (Err (faults.End e)) before after = TakesText (λ text. HasFewerEnds most number text e) before after
RefusesEndRun most number (Err fault) before after = IsWant fault
