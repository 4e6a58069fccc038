-- What becomes of an input that is a program or a record.
use Rattle.std.proofs.Common.{◌≡◌, ◌∙◌, ℕ, ◌≤◌, inl, inr, List, length, false, Option, None, Some, Result, Ok, Err, MatchResult, Vec, sym, subst, arith}
use Rattle.std.specs.Result.{IsErrAnd}
use Rattle.std.specs.Io.KnownBytes.{Consumes, Keeps}
use Rattle.boc_program.specs.declared.limits.TheConstants.{MOST_TEXT}
use Rattle.std.specs.Global.{Global}
use Rattle.boc_input.specs.Taken.{Begin, TakesProgram, TakesText}
use Rattle.boc_words.specs.declared.schedule.Schedule.{Schedule}
use Rattle.boc_run_commands.specs.declared.fault.Fault.{Fault}
use Rattle.boc_run_commands.specs.declared.fault.Fault.TheVariants as faults
use Rattle.boc_run_commands.specs.declared.fault.FileFault.TheVariants as files
use Rattle.boc_run_commands.specs.declared.fault.InputFault.TheVariants as inputs
use Rattle.boc_run_commands.specs.declared.fault.Want.TheVariants as wants
use Rattle.boc_run_commands.specs.declared.named_run.NamedRun.{NamedRun}
use Rattle.boc_plan_commands.specs.declared.program_input.Supplied.{Supplied}
use Rattle.boc_plan_commands.specs.declared.program_input.Supplied.TheVariants.{Nothing, Record, Names as NamesFile}
use Rattle.boc_run_commands.specs.Commands.{AnswersInput, IsOfRun, Leaves}
use Rattle.boc_run_commands.specs.NamedRuns.{HasRun, IsOfGiven, IsRefusedName, IsRenamed, IsRunGiven, IsScheduledRun}
use Rattle.boc_plan_commands.specs.ProgramInputs.{IsOfProgramRenamed, IsOfProgramRun, IsProgramRun, RefusesEither}
use Rattle.boc_run_commands.proofs.Asked.{leaves_as}

-- ---- the run of a program

-- what is said of it
abbrev Answers : Type 0 → Schedule → Supplied → List ℕ → List ℕ → Result NamedRun Fault → Type 0
Answers always_on schedule supplied file text result =
    MatchResult result (λ run. HasRun (IsProgramRun schedule supplied file text) run × (length text ≤ MOST_TEXT))
    (IsOfProgramRun always_on schedule supplied file text)

-- a run by a schedule
pub scheduled_as : (always_on : Type 0) (schedule : Schedule) (supplied : Supplied) (file read text : List ℕ) (result : Result NamedRun Fault)
    (More : NamedRun → Type 0) → supplied ≡ Nothing → read ≡ text
    → MatchResult result (λ run. HasRun (IsScheduledRun schedule read) run × (length read ≤ MOST_TEXT) × More run) (IsOfRun always_on schedule read)
    → Answers always_on schedule supplied file text result
scheduled_as always_on schedule supplied file read text result More is same h =
    subst (λ (s : Supplied). Answers always_on schedule s file text result) (sym is)
    (subst (λ (t : List ℕ). Answers always_on schedule Nothing file t result) same (go result h))
  where
    go : (r : Result NamedRun Fault)
        → MatchResult r (λ run. HasRun (IsScheduledRun schedule read) run × (length read ≤ MOST_TEXT) × More run) (IsOfRun always_on schedule read)
        → Answers always_on schedule Nothing file read r
    go (Ok run) h = (h.0, h.1)
    go (Err fault) h = h

-- the run that a file has the record of
pub given_as : (always_on : Type 0) (schedule : Schedule) (supplied : Supplied) (file read text : List ℕ) (result : Result NamedRun Fault)
    (More : NamedRun → Type 0) → supplied ≡ Record → read ≡ text
    → MatchResult result (λ run. HasRun (IsRunGiven read file) run × (length read ≤ MOST_TEXT) × More run) (IsOfGiven read file)
    → Answers always_on schedule supplied file text result
given_as always_on schedule supplied file read text result More is same h =
    subst (λ (s : Supplied). Answers always_on schedule s file text result) (sym is)
    (subst (λ (t : List ℕ). Answers always_on schedule Record file t result) same (go result h))
  where
    go : (r : Result NamedRun Fault)
        → MatchResult r (λ run. HasRun (IsRunGiven read file) run × (length read ≤ MOST_TEXT) × More run) (IsOfGiven read file)
        → Answers always_on schedule Record file read r
    go (Ok run) h = (h.0, h.1)
    go (Err fault) h = h

-- a run by a schedule, with names that a file laid over its own
pub named_as : (always_on : Type 0) (schedule : Schedule) (supplied : Supplied) (file bytes read text : List ℕ) (run : NamedRun)
    (result : Result NamedRun Fault) → supplied ≡ NamesFile → bytes ≡ file → read ≡ text → HasRun (IsScheduledRun schedule read) run
    → length read ≤ MOST_TEXT → MatchResult result (IsRenamed bytes run) (IsRefusedName bytes run.names)
    → Answers always_on schedule supplied file text result
named_as always_on schedule supplied file bytes read text run result is same reads own short h =
    subst (λ (s : Supplied). Answers always_on schedule s file text result) (sym is)
    (go result (subst (λ (f : List ℕ). MatchResult result (IsRenamed f run) (IsRefusedName f run.names)) same h))
  where
    has : HasRun (IsScheduledRun schedule text) run
    has = subst (λ (t : List ℕ). HasRun (IsScheduledRun schedule t) run) reads own

    few : length text ≤ MOST_TEXT
    few = subst (λ (t : List ℕ). length t ≤ MOST_TEXT) reads short

    refused : (fault : Fault) → IsRefusedName file run.names fault → IsOfProgramRenamed always_on schedule file text fault
    refused (faults.Input (inputs.Beside (files.Names r))) wrong =
        record { recorded = has.recorded; base = run.names; named = has.named; wrong = wrong.0; refusal = wrong.1 }
    refused (faults.Means wants.Memory) wrong = tt
    refused _ wrong = absurd wrong

    go : (r : Result NamedRun Fault) → MatchResult r (IsRenamed file run) (IsRefusedName file run.names) → Answers always_on schedule NamesFile file text r
    go (Ok after) renamed = (
      record {
        recorded = has.recorded;
        named = record { base = run.names; named = has.named; renamed = renamed.renamed };
        rows_are = renamed.same ∙ has.rows_are;
        few = renamed.few;
      },
      few,
    )
    go (Err fault) wrong = refused fault wrong

-- why the run by a schedule fails is why the one with names does
pub unnamed_as : (always_on : Type 0) (schedule : Schedule) (supplied : Supplied) (file read text : List ℕ) (result : Result NamedRun Fault)
    (fault : Fault) → supplied ≡ NamesFile → read ≡ text → IsErrAnd result (λ f. f ≡ fault) → IsOfRun always_on schedule read fault
    → Answers always_on schedule supplied file text result
unnamed_as always_on schedule supplied file read text (Ok run) fault is reads h wrong = absurd h
unnamed_as always_on schedule supplied file read text (Err f) fault is reads h wrong =
    subst (λ (s : Supplied). Answers always_on schedule s file text (Err f)) (sym is)
    (subst (IsOfProgramRenamed always_on schedule file text) (sym h)
    (go fault (subst (λ (t : List ℕ). IsOfRun always_on schedule t fault) reads wrong)))
  where
    go : (x : Fault) → IsOfRun always_on schedule text x → IsOfProgramRenamed always_on schedule file text x
    go (faults.Input (inputs.Beside (files.Names r))) w = absurd w
    go (faults.Input (inputs.Beside (files.Program r))) w = w
    go (faults.Input (inputs.Beside (files.Record r))) w = w
    go (faults.Input (inputs.Beside (files.Stray r))) w = w
    go (faults.Input (inputs.Program r)) w = w
    go (faults.Input (inputs.Record r)) w = w
    go (faults.Input (inputs.Cown n)) w = w
    go (faults.Input (inputs.Early n)) w = w
    go (faults.Input (inputs.Edit n e)) w = w
    go (faults.Input (inputs.Def n)) w = w
    go (faults.Input (inputs.Stray r)) w = w
    go (faults.Words r) w = w
    go (faults.Run r) w = w
    go faults.Unscheduled w = w
    go (faults.Window c) w = w
    go (faults.End c) w = w
    go (faults.Means r) w = w

-- ---- what goes out

-- an answer to a program text that was taken
pub answers_program : (IsAnswer : List ℕ → List ℕ → Type 0) (before after : Option (List ℕ)) (text output : List ℕ) → TakesText before after text
    → length text ≤ MOST_TEXT → IsAnswer text output → AnswersInput IsAnswer before after output
answers_program IsAnswer before after text output takes few answer =
    record { input = text; taken = takes.reads.taken; whole = takes.reads.whole (omega (arith, few)); answers = answer }

-- what goes out of it
pub leaves_program : (IsText : List ℕ → Type 0) (IsAnswer : List ℕ → List ℕ → Type 0) (r : Result (Unit {0}) Fault)
    (before after old new : Option (List ℕ)) (text : List ℕ) → TakesText before after text → length text ≤ MOST_TEXT
    → ((output : List ℕ) → IsText output → IsAnswer text output) → Leaves IsText r old new → Leaves (AnswersInput IsAnswer before after) r old new
leaves_program IsText IsAnswer r before after old new text takes few is =
    leaves_as IsText (AnswersInput IsAnswer before after) r old new
    (λ output h. answers_program IsAnswer before after text output takes few (is output h))

-- bytes that stayed were taken
consumes_kept : (before between after : Option (List ℕ)) (text : List ℕ) → Keeps before between → Consumes between after text → Consumes before after text
consumes_kept None between after text kept taken = tt
consumes_kept (Some xs) None after text kept taken = absurd kept
consumes_kept (Some xs) (Some ys) None text kept taken = absurd taken
consumes_kept (Some xs) (Some ys) (Some zs) text kept taken = sym kept ∙ taken

-- what answers the bytes that were given back answers those that came
pub leaves_kept : (IsRead IsAnswer : List ℕ → List ℕ → Type 0) (r : Result (Unit {0}) Fault) (before between after old new : Option (List ℕ))
    → Keeps before between → ((input output : List ℕ) → IsRead input output → IsAnswer input output)
    → Leaves (AnswersInput IsRead between after) r old new → Leaves (AnswersInput IsAnswer before after) r old new
leaves_kept IsRead IsAnswer r before between after old new kept is =
    leaves_as (AnswersInput IsRead between after) (AnswersInput IsAnswer before after) r old new (λ output answer. record {
      input = answer.input;
      taken = consumes_kept before between after answer.input kept answer.taken;
      whole = answer.whole;
      answers = is answer.input output answer.answers;
    })

-- ---- what is refused

-- a program is refused
pub refused_program : (IsOfRecord : Fault → Option (List ℕ) → Type 0) (IsOfProgram : List ℕ → Fault → Type 0) (result : Result (Unit {0}) Fault)
    (fault : Fault) (before after : Option (List ℕ)) (text : List ℕ) → IsErrAnd result (λ f. f ≡ fault) → TakesText before after text
    → IsOfProgram text fault → RefusesEither IsOfRecord IsOfProgram result before after
refused_program IsOfRecord IsOfProgram (Ok done) fault before after text h takes wrong = absurd h
refused_program IsOfRecord IsOfProgram (Err f) fault before after text h takes wrong = go f (subst (IsOfProgram text) (sym h) wrong)
  where
    go : (x : Fault) → IsOfProgram text x → RefusesEither {A = Unit {0}} IsOfRecord IsOfProgram (Err x) before after
    go (faults.Means w) w' = tt
    go (faults.Words r) w = inr (text, takes, w)
    go (faults.Input r) w = inr (text, takes, w)
    go (faults.Run r) w = inr (text, takes, w)
    go faults.Unscheduled w = inr (text, takes, w)
    go (faults.Window c) w = inr (text, takes, w)
    go (faults.End c) w = inr (text, takes, w)

-- what begins as no program does is refused as a record
pub refused_record : (Refuses : Result (Unit {0}) Fault → Option (List ℕ) → Type 0) (IsOfProgram : List ℕ → Fault → Type 0) (result : Result (Unit {0}) Fault)
    (before between after : Option (List ℕ)) → Begin false before → Keeps before between → Refuses result between
    → RefusesEither (λ fault bytes. Refuses (Err fault) bytes) IsOfProgram result before after
refused_record Refuses IsOfProgram (Ok done) before between after begins kept wrong = tt
refused_record Refuses IsOfProgram (Err f) before between after begins kept wrong = go f wrong
  where
    go : (x : Fault) → Refuses (Err x) between
        → RefusesEither {A = Unit {0}} (λ fault bytes. Refuses (Err fault) bytes) IsOfProgram (Err x) before after
    go (faults.Means w) w' = tt
    go (faults.Words r) w = inl (begins, (between, kept, w))
    go (faults.Input r) w = inl (begins, (between, kept, w))
    go (faults.Run r) w = inl (begins, (between, kept, w))
    go faults.Unscheduled w = inl (begins, (between, kept, w))
    go (faults.Window c) w = inl (begins, (between, kept, w))
    go (faults.End c) w = inl (begins, (between, kept, w))

-- ---- what is taken

-- nothing was taken
pub none_taken : (found : Option (Vec ℕ Global)) (before after : Option (List ℕ)) → found ≡ None → TakesProgram found before after
    → Keeps before after × Begin false before
none_taken found before after is h = subst (λ (f : Option (Vec ℕ Global)). TakesProgram f before after) is h

-- a program text was
pub some_taken : (found : Option (Vec ℕ Global)) (text : Vec ℕ Global) (before after : Option (List ℕ)) → found ≡ Some text
    → TakesProgram found before after → TakesText before after text.items
some_taken found text before after is h = subst (λ (f : Option (Vec ℕ Global)). TakesProgram f before after) is h
