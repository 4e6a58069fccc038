-- What every command answers, and what it refuses.
use Rattle.std.specs.Prelude.{◌≡◌, ℕ, List, [], Option, Some, None, option_map, IfErr, Result, Err, string_bytes}
use Rattle.std.specs.Io.KnownBytes.{Keeps}
use Rattle.boc_words.specs.declared.version.TheConstants.{VERSION}
use Rattle.boc_words.specs.declared.words.Command.{Command}
use Rattle.boc_words.specs.declared.words.Command.TheVariants as commands
use Rattle.boc_words.specs.declared.asked.CutNames.{CutNames}
use Rattle.boc_words.specs.declared.asked.WhatIfFile.{WhatIfFile}
use Rattle.boc_words.specs.declared.asked.WhatIfFile.TheVariants as named
use Rattle.boc_words.specs.declared.asked.RunFile.{RunFile}
use Rattle.boc_words.specs.declared.asked.RunFile.TheVariants as files
use Rattle.boc_all_ends_commands.specs.AllEndsAnswers.{IsAllEndsAnswer, RefusesSearch}
use Rattle.boc_all_ends_commands.specs.EndRunAnswers.{IsEndRunAnswer, RefusesEndRun}
use Rattle.boc_cut_commands.specs.CutAnswers.{IsCutAnswer, IsTilesAnswer, RefusesWhole, RefusesWindow}
use Rattle.boc_run_commands.specs.declared.fault.Fault.{Fault}
use Rattle.boc_run_commands.specs.Answers.{IsCheckAnswer}
use Rattle.boc_run_commands.specs.Commands.{AnswersInput, RefusesNothing, RefusesProgram, RefusesRecord, RefusesRun}
use Rattle.boc_run_commands.specs.Beside.{IsCheckAgainstAnswer, RefusesAgainst, RefusesValuesAfter}
use Rattle.boc_run_commands.specs.NamedRuns.{RefusesNamedRun}
use Rattle.boc_plan_commands.specs.ProgramInputs.{IsCurveOf, IsOfProgramRun, RefusesEither, supplied_by, supplied_record, supplied_to}
use Rattle.boc_plan_commands.specs.SweepAnswers.{AnswersSweep, RefusesSweep}
use Rattle.boc_run_commands.specs.Notes.{TellsRun, TellsTime, TellsValues, TellsValuesAfter}
use Rattle.boc_plan_commands.specs.Tells.{TellsCowns, TellsProfileOf, TellsWhy}
use Rattle.boc_run_commands.specs.OutcomesAnswers.{IsOutcomesAnswer, RefusesDraws}
use Rattle.boc_several_commands.specs.declared.compare.Pair.{Pair}
use Rattle.boc_several_commands.specs.declared.compare.Which.{Which}
use Rattle.boc_several_commands.specs.CompareRuns.{IsCompareRunsAnswer, RefusesCompareRuns}
use Rattle.boc_several_commands.specs.Comparing.{RefusesCompare, TellsCompare}
use Rattle.boc_several_commands.specs.WhyRuns.{IsWhyRunsAnswer, RefusesWhyRuns}
use Rattle.boc_plan_commands.specs.WhatIfAnswers.{AnswersWhatIf, IsOfWhatIf, RefusesWhatIf}

-- ---- the file beside the input

-- the path of the file of `whatif`
abbrev pub whatif_path : WhatIfFile → List ℕ
whatif_path (named.Program path) = string_bytes path
whatif_path (named.Record path) = string_bytes path
whatif_path (named.Names path) = string_bytes path

-- the path of the file of a run
abbrev pub run_path : RunFile → List ℕ
run_path (files.Record path) = string_bytes path
run_path (files.Names path) = string_bytes path

-- the path of the file with the names of a stream
abbrev pub stream_names_path : CutNames → List ℕ
stream_names_path names = string_bytes names.names

-- the path of the file that a command names beside its input, where it names one
abbrev pub file_of : Command → Option (List ℕ)
file_of (commands.Values record_path quiet) = option_map string_bytes record_path
file_of (commands.Check program_path) = option_map string_bytes program_path
file_of (commands.Cut asked names) = option_map stream_names_path names
file_of (commands.Profile asked record_path) = option_map string_bytes record_path
file_of (commands.WhatIf schedule changes plans sharing file short) = option_map whatif_path file
file_of (commands.Curve asked record_path) = option_map string_bytes record_path
file_of (commands.Sweep asked file) = option_map run_path file
file_of (commands.Why asked file) = option_map run_path file
file_of (commands.Cowns asked file) = option_map run_path file
file_of _ = None

-- ---- every command

-- What goes out for a command, with these notes: the answer to its input, beside the bytes of the file that it names, where it names one, or beside the pair of
-- the second input and the files of names, where it compares two; or, for a call for help, the parser's text, and for one for the version that version, for
-- which nothing is taken.
abbrev pub AnswersCommand : Command → List ℕ → Pair → List ℕ → Option (List ℕ) → Option (List ℕ) → List ℕ → Type 0
AnswersCommand (commands.Values None quiet) beside pair notes before after text = AnswersInput (TellsValues quiet notes) before after text
AnswersCommand (commands.Values (Some path) quiet) beside pair notes before after text = AnswersInput (TellsValuesAfter beside quiet notes) before after text
AnswersCommand (commands.Check None) beside pair notes before after text = AnswersInput IsCheckAnswer before after text
AnswersCommand (commands.Check (Some path)) beside pair notes before after text = AnswersInput (IsCheckAgainstAnswer beside) before after text
AnswersCommand (commands.Cut asked names) beside pair notes before after text = IsCutAnswer asked.from asked.rows before after text
AnswersCommand (commands.Tiles count) beside pair notes before after text = IsTilesAnswer count text
AnswersCommand (commands.Run schedule quiet) beside pair notes before after text = AnswersInput (TellsRun schedule quiet notes) before after text
AnswersCommand (commands.Profile asked record_path) beside pair notes before after text =
    AnswersInput (TellsProfileOf asked (supplied_record record_path) beside notes) before after text
AnswersCommand (commands.Time schedule plans sharing quiet) beside pair notes before after text =
    AnswersInput (TellsTime schedule sharing plans quiet notes) before after text
AnswersCommand (commands.WhatIf schedule changes plans sharing file short) beside pair notes before after text =
    AnswersInput (AnswersWhatIf schedule file beside changes sharing plans short) before after text
AnswersCommand (commands.Curve asked record_path) beside pair notes before after text =
    AnswersInput (IsCurveOf asked (supplied_record record_path) beside) before after text
AnswersCommand (commands.Sweep asked file) beside pair notes before after text = AnswersInput (AnswersSweep asked (supplied_by file) beside) before after text
AnswersCommand (commands.Why asked file) beside pair notes before after text = AnswersInput (TellsWhy asked file beside notes) before after text
AnswersCommand (commands.Cowns asked file) beside pair notes before after text = AnswersInput (TellsCowns asked file beside notes) before after text
AnswersCommand (commands.WhyRuns asked) beside pair notes before after text = AnswersInput (IsWhyRunsAnswer asked) before after text
AnswersCommand (commands.Compare asked files) beside pair notes before after text = AnswersInput (TellsCompare asked files pair notes) before after text
AnswersCommand (commands.CompareRuns asked path) beside pair notes before after text =
    AnswersInput (IsCompareRunsAnswer asked pair.after.items) before after text
AnswersCommand (commands.Outcomes draws) beside pair notes before after text = AnswersInput (IsOutcomesAnswer draws) before after text
AnswersCommand (commands.AllEnds most) beside pair notes before after text = AnswersInput (IsAllEndsAnswer most) before after text
AnswersCommand (commands.EndRun most number) beside pair notes before after text = AnswersInput (IsEndRunAnswer most number) before after text
AnswersCommand (commands.Help help) beside pair notes before after text = (text ≡ string_bytes help) × Keeps before after
AnswersCommand commands.Version beside pair notes before after text = (text ≡ VERSION.now) × Keeps before after

-- the commands that note nothing leave no notes
abbrev pub NotesNothing : Command → List ℕ → Type 0
NotesNothing (commands.Values record_path quiet) notes = Unit {0}
NotesNothing (commands.Cut asked names) notes = Unit {0}
NotesNothing (commands.Tiles count) notes = Unit {0}
NotesNothing (commands.Run schedule quiet) notes = Unit {0}
NotesNothing (commands.Profile asked record_path) notes = Unit {0}
NotesNothing (commands.Time schedule plans sharing quiet) notes = Unit {0}
NotesNothing (commands.Why asked file) notes = Unit {0}
NotesNothing (commands.Cowns asked file) notes = Unit {0}
NotesNothing (commands.Compare asked files) notes = Unit {0}
NotesNothing _ notes = notes ≡ []

-- the commands that cut no window leave no names of one
abbrev pub NamesNothing : Command → List ℕ → Type 0
NamesNothing (commands.Cut asked files) names = Unit {0}
NamesNothing _ names = names ≡ []

-- what a command refuses; a call for help or for the version refuses nothing
abbrev pub RefusesCommand : {A : Type 0} → Type 0 → Command → List ℕ → Pair → Which → Result A Fault → Option (List ℕ) → Option (List ℕ) → Type 0
RefusesCommand always_on (commands.Values None quiet) beside pair which result before after = RefusesProgram result before after
RefusesCommand always_on (commands.Values (Some path) quiet) beside pair which result before after = RefusesValuesAfter beside result before after
RefusesCommand always_on (commands.Check None) beside pair which result before after = RefusesRecord result before
RefusesCommand always_on (commands.Check (Some path)) beside pair which result before after = RefusesAgainst beside result before
RefusesCommand always_on (commands.Cut asked names) beside pair which result before after =
    RefusesWindow result × (asked.from ≡ 0 → asked.rows ≡ None → names ≡ None → IfErr result (λ fault. RefusesWhole fault before))
RefusesCommand always_on (commands.Tiles count) beside pair which result before after = RefusesWindow result
RefusesCommand always_on (commands.Run schedule quiet) beside pair which result before after = RefusesRun always_on schedule result before after
RefusesCommand always_on (commands.Profile asked record_path) beside pair which result before after =
    RefusesEither (λ fault bytes. RefusesRecord {A = Unit {0}} (Err fault) bytes)
    (IsOfProgramRun always_on asked.schedule (supplied_record record_path) beside) result before after
RefusesCommand always_on (commands.Time schedule plans sharing quiet) beside pair which result before after =
    RefusesRun always_on schedule result before after
RefusesCommand always_on (commands.WhatIf schedule changes plans sharing file short) beside pair which result before after =
    RefusesEither (λ fault bytes. RefusesWhatIf {A = Unit {0}} file beside changes (Err fault) bytes)
    (IsOfWhatIf always_on schedule (supplied_to file) beside changes) result before after
RefusesCommand always_on (commands.Curve asked record_path) beside pair which result before after =
    RefusesEither (λ fault bytes. RefusesRecord {A = Unit {0}} (Err fault) bytes)
    (IsOfProgramRun always_on asked.schedule (supplied_record record_path) beside) result before after
RefusesCommand always_on (commands.Sweep asked file) beside pair which result before after =
    RefusesEither (λ fault bytes. RefusesSweep {A = Unit {0}} (supplied_by file) beside (Err fault) bytes)
    (IsOfProgramRun always_on asked.schedule (supplied_by file) beside) result before after
RefusesCommand always_on (commands.Why asked file) beside pair which result before after =
    RefusesNamedRun always_on asked.schedule file beside result before after
RefusesCommand always_on (commands.Cowns asked file) beside pair which result before after =
    RefusesNamedRun always_on asked.schedule file beside result before after
RefusesCommand always_on (commands.WhyRuns asked) beside pair which result before after = RefusesWhyRuns asked result before after
RefusesCommand always_on (commands.Compare asked files) beside pair which result before after =
    RefusesCompare always_on asked files pair which result before after
RefusesCommand always_on (commands.CompareRuns asked path) beside pair which result before after =
    RefusesCompareRuns asked pair.after.items which result before after
RefusesCommand always_on (commands.Outcomes draws) beside pair which result before after = RefusesDraws draws result before after
RefusesCommand always_on (commands.AllEnds most) beside pair which result before after = RefusesSearch result before after
RefusesCommand always_on (commands.EndRun most number) beside pair which result before after = RefusesEndRun most number result before after
RefusesCommand always_on (commands.Help help) beside pair which result before after = RefusesNothing result
RefusesCommand always_on commands.Version beside pair which result before after = RefusesNothing result
