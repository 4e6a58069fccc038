-- What is refused of a picture.
use Rattle.std.proofs.Common.{◌≡◌, ℕ, inl, inr, List, Option, Some, None, Result, Ok, Err, subst, sym}
use Rattle.std.specs.Result.{IsErrAnd}
use Rattle.boc_run_commands.specs.declared.fault.Fault.{Fault}
use Rattle.boc_run_commands.specs.declared.fault.Fault.TheVariants as faults
use Rattle.boc_run_commands.specs.declared.fault.Want.TheVariants as wants
use Rattle.boc_words.specs.declared.asked.AskedRuns.{AskedRuns}
use Rattle.boc_words.specs.declared.asked.RunFile.{RunFile}
use Rattle.boc_words.specs.declared.asked.RunFile.TheVariants as run_files
use Rattle.boc_words.specs.declared.schedule.Schedule.{Schedule}
use Rattle.boc_run_commands.specs.NamedRuns.{IsOfNamedRun, IsOfOwn, IsTaken}
use Rattle.boc_run_commands.proofs.TakenRuns.{begins_or_not}
use Rattle.boc_view.specs.Materials.{IsOfPicture, RefusesPicture, runs_shown}
use Rattle.boc_view.specs.Runs.{IsOfRunsShown}
use Rattle.boc_view.specs.declared.wanted.Wanted.{Wanted}

own_memory : (always_on : Type 0) (schedule : Schedule) (text : List ℕ) → IsOfOwn always_on schedule text (faults.Means wants.Memory)
own_memory always_on schedule text = elim (begins_or_not text) [ inl begins ↦ inl (begins, tt) | inr none ↦ inr (none, tt) ]

-- memory may be wanting, whatever the input and the file are
memory_wanting : (always_on : Type 0) (schedule : Schedule) (file : Option RunFile) (bytes text : List ℕ)
    → IsOfNamedRun always_on schedule file bytes text (faults.Means wants.Memory)
memory_wanting always_on schedule None bytes text = own_memory always_on schedule text
memory_wanting always_on schedule (Some (run_files.Record path)) bytes text = tt
memory_wanting always_on schedule (Some (run_files.Names path)) bytes text = own_memory always_on schedule text

-- the same of a picture
pub of_memory : (always_on : Type 0) (wanted : Wanted) (bytes text : List ℕ) → IsOfPicture always_on wanted bytes text (faults.Means wants.Memory)
of_memory always_on wanted bytes text = inr (memory_wanting always_on wanted.schedule wanted.file bytes text)

-- what is refused of the run of an input is refused of its picture
pub of_run : (always_on : Type 0) (wanted : Wanted) (bytes text : List ℕ) (fault : Fault)
    → IsOfNamedRun always_on wanted.schedule wanted.file bytes text fault → IsOfPicture always_on wanted bytes text fault
of_run always_on wanted bytes text fault is = inr is

-- and so is what is refused of the runs that are asked for, whose text was read
pub of_runs : (always_on : Type 0) (wanted : Wanted) (bytes text read : List ℕ) (asked : Option AskedRuns) (fault : Fault) → asked ≡ runs_shown wanted
    → read ≡ text → IsOfRunsShown asked read fault → IsOfPicture always_on wanted bytes text fault
of_runs always_on wanted bytes text read asked fault same same_text is =
    inl (subst (λ (t : List ℕ). IsOfRunsShown (runs_shown wanted) t fault) same_text (subst (λ (a : Option AskedRuns). IsOfRunsShown a read fault) same is))

-- what was refused of a text that was taken is refused of what it was taken of
pub refused_picture : {A : Type 0} (always_on : Type 0) (wanted : Wanted) (bytes : List ℕ) (result : Result A Fault)
    (fault : Fault) (text : List ℕ) (before after : Option (List ℕ)) → IsErrAnd result (λ f. f ≡ fault) → IsTaken before after text
    → IsOfPicture always_on wanted bytes text fault → RefusesPicture always_on wanted bytes result before after
refused_picture always_on wanted bytes (Ok done) fault text before after h taken is = absurd h
refused_picture {A} always_on wanted bytes (Err f) fault text before after h taken is =
    subst (λ (x : Fault). RefusesPicture {A = A} always_on wanted bytes (Err x) before after) (sym h) (go fault is)
  where
    go : (x : Fault) → IsOfPicture always_on wanted bytes text x → RefusesPicture {A = A} always_on wanted bytes (Err x) before after
    go (faults.Means w) is = tt
    go _ is = (text, taken, is)
