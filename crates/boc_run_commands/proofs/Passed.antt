-- A fault that a part of a command passes on.
use Rattle.std.proofs.Common.{◌≡◌, ◌+◌, ℕ, List, Option, Result, Ok, Err, MatchResult, refl, sym, subst}
use Rattle.std.specs.Result.{IsErrAnd}
use Rattle.boc_text.specs.Streams.{ReadsWhole}
use Rattle.boc_program.specs.declared.limits.TheConstants.{MOST_TEXT}
use Rattle.boc_run_commands.specs.declared.fault.Fault.{Fault}
use Rattle.boc_run_commands.specs.declared.fault.Fault.TheVariants as faults
use Rattle.boc_run_commands.specs.declared.fault.InputFault.TheVariants as inputs
use Rattle.boc_run_commands.specs.declared.fault.Want.{Want}
use Rattle.boc_run_commands.specs.declared.fault.Want.TheVariants as means
use Rattle.boc_run_commands.specs.Faults.{of_read}
use Rattle.boc_program.specs.declared.program.Program.{Program}
use Rattle.boc_reader.specs.Spells.{Spells}
use Rattle.boc_workers.specs.declared.fault.RunFault.TheVariants as runs
use Rattle.boc_words.specs.declared.schedule.Schedule.{Schedule}
use Rattle.boc_reader.specs.FaultMeanings.{IsRefusalOf}
use Rattle.boc_reader.specs.declared.fault.ReadFault.{ReadFault}
use Rattle.boc_reader.specs.declared.fault.ReadFaultKind.{ReadFaultKind}
use Rattle.boc_reader.specs.declared.fault.ReadFaultKind.TheVariants as kinds
use Rattle.boc_run_commands.specs.Commands.{IsOfCourse, IsOfRun, IsWrongWith, RefusesNothing, RefusesRun}

-- where a result is a fault, what holds of that fault holds of it
pub passed_on : {A : Type 0} (Is : A → Type 0) (IsWrong : Fault → Type 0) (result : Result A Fault) (fault : Fault)
    → IsErrAnd result (λ f. f ≡ fault) → IsWrong fault → MatchResult result Is IsWrong
passed_on Is IsWrong (Ok done) fault h wrong = absurd h
passed_on Is IsWrong (Err f) fault h wrong = subst IsWrong (sym h) wrong

-- why a program text is refused is why the command refuses it; want of memory refuses no text
pub refused_text : (IsWrong : Fault → Type 0) (text : List ℕ) (r : ReadFault) → IsWrong (faults.Means means.Memory)
    → (IsWrongWith text r → IsWrong (faults.Input (inputs.Program r))) → IsRefusalOf r text → IsWrong (of_read r r.kind)
refused_text IsWrong text r memory program is = go r.kind refl
  where
    go : (kind : ReadFaultKind) → r.kind ≡ kind → IsWrong (of_read r kind)
    go kinds.Memory same = memory
    go _ same = program (is, λ other. cc)

-- a run is refused for the text that was taken
pub refused_run : (always_on : Type 0) (schedule : Schedule) (result : Result (Unit {0}) Fault) (fault : Fault) (text : List ℕ)
    (before after : Option (List ℕ)) → IsErrAnd result (λ f. f ≡ fault) → ReadsWhole before after text (MOST_TEXT + 1)
    → IsOfRun always_on schedule text fault → RefusesRun always_on schedule result before after
refused_run always_on schedule (Ok done) fault text before after h reads is = absurd h
refused_run always_on schedule (Err f) fault text before after h reads is =
    subst (λ (x : Fault). RefusesRun {A = Unit {0}} always_on schedule (Err x) before after) (sym h) (go fault is)
  where
    go : (x : Fault) → IsOfRun always_on schedule text x → RefusesRun {A = Unit {0}} always_on schedule (Err x) before after
    go (faults.Means w) is = tt
    go _ is = record { input = text; taken = reads; known = is }

-- what holds of what is done, and of each want, holds of a result that refuses nothing
pub refuses_nothing : (Holds : Result (Unit {0}) Fault → Type 0) → Holds (Ok tt) → ((w : Want) → Holds (Err (faults.Means w)))
    → (result : Result (Unit {0}) Fault) → RefusesNothing result → Holds result
refuses_nothing Holds ok want (Ok done) h = ok
refuses_nothing Holds ok want (Err (faults.Means w)) h = want w
refuses_nothing Holds ok want (Err _) h = absurd h

-- a fault of a run of the program that a text spells is one of the text
pub refused_course : (always_on : Type 0) (schedule : Schedule) (text : List ℕ) (program : Program) (fault : Fault) → Spells text program
    → IsOfCourse always_on program schedule fault → IsOfRun always_on schedule text fault
refused_course always_on schedule text program (faults.Run runs.Memory) spells is = absurd is
refused_course always_on schedule text program (faults.Run _) spells is = record { program = program; spells = spells; fails = is }
refused_course always_on schedule text program faults.Unscheduled spells is = record { program = program; spells = spells; unscheduled = is }
refused_course always_on schedule text program (faults.Means means.Memory) spells is = tt
refused_course always_on schedule text program _ spells is = absurd is
