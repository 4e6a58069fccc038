-- What the words of a command line ask for.
use Rattle.std.specs.Prelude.{◌≡◌, ◌<◌, ◌≤◌, ◌+◌, ◌^◌, ◌++◌, ◌⊎◌, ◌≢◌, ℕ, List, [], ◌∷◌, Option, Some, None, Bool, true, false, String}
use Rattle.std.specs.Prelude.{map, min, fold, not, unwrap_or, length, codes, string_bytes}
use Rattle.std.specs.Global.{Global}
use Rattle.std.specs.List.{All, AllZip, filter, sum_by}
use Rattle.std.specs.Str.Parse.{IsNumeral, digits_value, without_leading_plus}
use Rattle.clap.specs.Kinds.{IsAmong}
use Rattle.clap.specs.Simple.{on_top}
use Rattle.clap.specs.Words.{App, Row, Text, app_of, all_of, fault_of, kind_of, new_app, subcommand_of, with_subcommand}
use Rattle.clap.specs.declared.builder.command.Command.{Command as Parser}
use Rattle.clap.specs.declared.builder.command.Command.TheViews.{out-Command}
use Rattle.clap.specs.declared.error.Error.{Error}
use Rattle.clap.specs.declared.error.kind.ErrorKind.{ErrorKind}
use Rattle.clap.specs.declared.error.kind.ErrorKind.TheVariants as kinds
use Rattle.boc_program.specs.declared.limits.TheConstants.{MOST_RUNNERS, MOST_WORKERS}
use Rattle.boc_plans.specs.declared.sharing.Sharing.{Sharing}
use Rattle.boc_plans.specs.declared.sharing.Sharing.TheVariants.{Exclusive, SharedReads}
use Rattle.boc_plans.specs.declared.sweep.Sweep.{Sweep}
use Rattle.boc_plans.specs.declared.sweep.Sweep.TheVariants.{Ticks, Cowns, Spawns}
use Rattle.boc_words.specs.declared.fault.WordsFault.{WordsFault}
use Rattle.boc_words.specs.declared.fault.WordsFault.TheVariants as faults
use Rattle.boc_words.specs.declared.words.Command.{Command}
use Rattle.boc_words.specs.declared.words.Command.TheVariants as commands
use Rattle.boc_words.specs.declared.words.CommandLine.{CommandLine}
use Rattle.boc_words.specs.declared.commands.Kind.{Kind}
use Rattle.boc_words.specs.declared.commands.Kind.TheVariants as called
use Rattle.boc_words.specs.Commands.{Argument, IsNumberOf, NumberOption, commands_of_boc, number_options, shape_of_command, signature_of}
use Rattle.boc_words.specs.Commands.{best_option, depth_option, files_of, names_file, program_file, record_file, runners_option, runs_option, seed_option}
use Rattle.boc_words.specs.Commands.{after_names_file, after_operand, before_names_file, before_operand, then_option, top_option, workers_option}
use Rattle.boc_words.specs.Commands.{end_option, from_option, most_option, out_names_file, tiles_option, window_rows_option}
use Rattle.boc_words.specs.EditWords.{IsEditWord, IsWritable, edit_word, is_edit}
use Rattle.boc_words.specs.declared.asked.AskedChanges.{AskedChanges}
use Rattle.boc_words.specs.declared.asked.AskedCompare.{AskedCompare}
use Rattle.boc_words.specs.declared.asked.AskedCown.{AskedCown}
use Rattle.boc_words.specs.declared.asked.AskedCown.TheVariants as cowns
use Rattle.boc_words.specs.declared.asked.AskedCowns.{AskedCowns}
use Rattle.boc_words.specs.declared.asked.AskedCurve.{AskedCurve}
use Rattle.boc_words.specs.declared.asked.AskedCut.{AskedCut}
use Rattle.boc_words.specs.declared.asked.AskedDraws.{AskedDraws}
use Rattle.boc_words.specs.declared.asked.AskedEdit.{AskedEdit}
use Rattle.boc_words.specs.declared.asked.AskedPlans.{AskedPlans}
use Rattle.boc_words.specs.declared.asked.AskedProfile.{AskedProfile}
use Rattle.boc_words.specs.declared.asked.AskedRuns.{AskedRuns}
use Rattle.boc_words.specs.declared.asked.AskedSweep.{AskedSweep}
use Rattle.boc_words.specs.declared.asked.AskedWhy.{AskedWhy}
use Rattle.boc_words.specs.declared.asked.CompareFiles.{CompareFiles}
use Rattle.boc_words.specs.declared.asked.CutNames.{CutNames}
use Rattle.boc_words.specs.declared.asked.WhatIfFile.{WhatIfFile}
use Rattle.boc_words.specs.declared.asked.WhatIfFile.TheVariants as supposed
use Rattle.boc_words.specs.declared.asked.RunFile.{RunFile}
use Rattle.boc_words.specs.declared.asked.RunFile.TheVariants as files
use Rattle.boc_words.specs.declared.schedule.Schedule.{Schedule}
use Rattle.boc_words.specs.declared.schedule.Schedule.TheVariants as schedules

-- ---- what the parser is told

-- `boc`, which has a version and wants one of its commands
abbrev pub without_commands : App
without_commands = on_top (λ shape. record shape {
  has_version = true;
  subcommand_required = true;
  arg_required_else_help = true;
}) (new_app (codes "boc"))

-- `boc` with its commands
abbrev pub command_line : App
command_line = fold with_subcommand without_commands (map shape_of_command commands_of_boc)

-- what a parser was told so far is this, and no argument of it is one of all commands
pub record Told (command : Parser) (app : App) : Type 0 where
  pub app_is : app_of command ≡ app
  pub local : (out-Command command).has_globals ≡ false

-- ---- what was found for a command

-- the texts that were found for an argument: none where it was not given
abbrev pub values_at : List Row → List ℕ → List (List ℕ)
values_at rows id = unwrap_or (all_of id rows) []

-- the text is this number in decimal digits, with a plus sign before them or with none
pub record Says (text : List ℕ) (number : ℕ) : Type 0 where
  pub numeral : IsNumeral 10 (without_leading_plus text)
  pub value : digits_value 10 (without_leading_plus text) ≡ number

-- one text was given, and it is this number
pub record IsGiven (texts : List (List ℕ)) (number : ℕ) : Type 0 where
  pub text : List ℕ
  pub alone : texts ≡ text ∷ []
  pub says : Says text number

-- the option was not given, or it was, with this number
abbrev pub GivesNumber : NumberOption → List Row → Option ℕ → Type 0
GivesNumber option rows None = values_at rows option.id ≡ []
GivesNumber option rows (Some number) = IsGiven (values_at rows option.id) number

-- no `--p` was given, or one with this number
abbrev pub AreWorkers : List Row → Option ℕ → Type 0
AreWorkers rows workers = GivesNumber workers_option rows workers

-- the option was not given, and it is the usual number, or it was, with this number
abbrev pub GivesOr : ℕ → NumberOption → List Row → ℕ → Type 0
GivesOr usual option rows number = (GivesNumber option rows None × (number ≡ usual)) ⊎ GivesNumber option rows (Some number)

-- no `--p` was given, and it is the most that may be, or one with this number
abbrev pub AreUpTo : List Row → ℕ → Type 0
AreUpTo rows number = GivesOr MOST_WORKERS workers_option rows number

-- no `--workers` was given, and it is 1, or one with this number
abbrev pub AreRunners : List Row → ℕ → Type 0
AreRunners rows number = GivesOr 1 runners_option rows number

-- the flag was given
abbrev pub IsSet : List Row → Text → Type 0
IsSet rows id = values_at rows id ≡ codes "true" ∷ []

-- the flag was not given
abbrev pub IsUnset : List Row → Text → Type 0
IsUnset rows id = values_at rows id ≢ codes "true" ∷ []

-- How a program is to be run without `--timed`: where no `--seed` was given, and then no `--depth` either, by so many threads; and with a seed as it
-- draws, at this depth where one was given.
abbrev pub IsUntimed : List Row → Schedule → Type 0
IsUntimed rows (schedules.Threads runners) =
    AreRunners rows runners × GivesNumber seed_option rows None × GivesNumber depth_option rows None
IsUntimed rows (schedules.Drawn workers seed depth) =
    AreRunners rows workers × GivesNumber seed_option rows (Some seed) × GivesNumber depth_option rows depth
IsUntimed rows (schedules.Timed workers) = ⊥

-- For so many workers ticks are time: as many as `--workers` says; where it wasn't given, as many as `--p` says, but no more than there may be; and where
-- neither was given, as many as there may be.
abbrev pub AreTimedWorkers : List Row → ℕ → Type 0
AreTimedWorkers rows number =
    ((p : ℕ) × AreWorkers rows (Some p) × GivesOr (min p MOST_RUNNERS) runners_option rows number)
    ⊎ (AreWorkers rows None × GivesOr MOST_RUNNERS runners_option rows number)

-- How a program is to be run: with `--timed`, and then no `--seed` and no `--depth`, by workers that take ticks as time; and else as it is without.
abbrev pub IsSchedule : List Row → Schedule → Type 0
IsSchedule rows (schedules.Timed workers) =
    IsSet rows (codes "timed") × AreTimedWorkers rows workers × GivesNumber seed_option rows None × GivesNumber depth_option rows None
IsSchedule rows (schedules.Threads runners) = IsUnset rows (codes "timed") × IsUntimed rows (schedules.Threads runners)
IsSchedule rows (schedules.Drawn workers seed depth) = IsUnset rows (codes "timed") × IsUntimed rows (schedules.Drawn workers seed depth)

-- `--timed` was given, and `--seed` too
abbrev pub IsDrawnAndTimed : List Row → Type 0
IsDrawnAndTimed rows = IsSet rows (codes "timed") × (values_at rows seed_option.id ≢ [])

-- `--depth` was given, and no `--seed`
abbrev pub LacksSeed : List Row → Type 0
LacksSeed rows = (values_at rows depth_option.id ≢ []) × (values_at rows seed_option.id ≡ [])

-- the runs that are to be drawn: 1,000 where no `--runs` was given, the first by the seed 0 where no `--seed` was, by 4 workers where no `--workers`
-- was, and at this depth where one was given
pub record AreDraws (rows : List Row) (draws : AskedDraws) : Type 0 where
  pub runs : GivesOr 1000 runs_option rows draws.runs
  pub seed : GivesOr 0 seed_option rows draws.seed
  pub workers : GivesOr 4 runners_option rows draws.workers
  pub depth : GivesNumber depth_option rows draws.depth

-- `--shared-reads` was given, and what was only read is shared, or it was not, and cowns are exclusive
abbrev pub AreShared : List Row → Sharing → Type 0
AreShared rows SharedReads = IsSet rows (codes "shared-reads")
AreShared rows Exclusive = IsUnset rows (codes "shared-reads")

-- `--all` was given, and all is told, or it was not
abbrev pub IsAll : List Row → Bool → Type 0
IsAll rows true = IsSet rows (codes "all")
IsAll rows false = IsUnset rows (codes "all")

-- what a sweep changes: spawns with `--spawns`, and then no `--p` was given; cowns with `--cowns`; else ticks. Of the two flags no more than
-- one was given
abbrev pub IsOver : List Row → Sweep → Type 0
IsOver rows (Ticks workers) = IsUnset rows (codes "cowns") × IsUnset rows (codes "spawns") × AreWorkers rows workers
IsOver rows (Cowns workers) = IsSet rows (codes "cowns") × IsUnset rows (codes "spawns") × AreWorkers rows workers
IsOver rows Spawns = IsUnset rows (codes "cowns") × IsSet rows (codes "spawns") × AreWorkers rows None

-- of a sweep `--spawns` was given, and `--cowns` or `--p` too
abbrev pub AreAtOdds : List Row → Type 0
AreAtOdds rows = IsSet rows (codes "spawns") × (IsSet rows (codes "cowns") ⊎ (values_at rows workers_option.id ≢ []))

-- the text is the number of 32 bits of a cown; or it is none, and the name of one
abbrev pub IsCownText : List ℕ → AskedCown → Type 0
IsCownText text (cowns.Number number) = Says text number
IsCownText text (cowns.Name name) = (string_bytes name ≡ text) × ((number : ℕ) → number < 2 ^ 32 → Says text number → ⊥)

-- the texts given to `--without` are those of these cowns, in their order
abbrev pub AreCowns : List Row → List AskedCown → Type 0
AreCowns rows cowns = AllZip IsCownText (values_at rows (codes "without")) cowns

-- the texts given to `--early` are these names of defs, in their order
abbrev pub AreEarlyDefs : List Row → List (String Global) → Type 0
AreEarlyDefs rows defs = values_at rows (codes "early") ≡ map string_bytes defs

-- there is no such text, or it is this path
abbrev pub IsPathOf : List Text → Option (String Global) → Type 0
IsPathOf texts None = texts ≡ []
IsPathOf texts (Some path) = texts ≡ string_bytes path ∷ []

-- the file was not given, or it was, with this path
abbrev pub GivesFile : List Row → Text → Option (String Global) → Type 0
GivesFile rows file path = IsPathOf (values_at rows file) path

-- the words that are given as edits: those that look like one
abbrev pub edit_words : List Row → List Text
edit_words rows = filter is_edit (values_at rows (codes "edits"))

-- the words that name the file of the input, of which a command takes one: of `whatif` those that don't look like edits, and of `compare` the first input
abbrev pub input_words : Kind → List Row → List Text
input_words called.WhatIf rows = filter (λ word. not (is_edit word)) (values_at rows (codes "edits"))
input_words called.Compare rows = values_at rows before_operand
input_words _ rows = values_at rows (codes "file")

-- the input comes from no file, or from this one
abbrev pub ReadsFrom : Kind → List Row → Option (String Global) → Type 0
ReadsFrom kind rows input = IsPathOf (input_words kind rows) input

-- no file was given, or the one with the record of the run, or the one with the names
abbrev pub IsRunFile : List Row → Option RunFile → Type 0
IsRunFile rows None = GivesFile rows record_file None × GivesFile rows names_file None
IsRunFile rows (Some (files.Record path)) = GivesFile rows record_file (Some path) × GivesFile rows names_file None
IsRunFile rows (Some (files.Names path)) = GivesFile rows record_file None × GivesFile rows names_file (Some path)

-- no file was given, or the one with the program of the record, or the one with the record of the run, or the one with the names
abbrev pub IsWhatIfFile : List Row → Option WhatIfFile → Type 0
IsWhatIfFile rows None = GivesFile rows program_file None × GivesFile rows record_file None × GivesFile rows names_file None
IsWhatIfFile rows (Some (supposed.Program path)) =
    GivesFile rows program_file (Some path) × GivesFile rows record_file None × GivesFile rows names_file None
IsWhatIfFile rows (Some (supposed.Record path)) =
    GivesFile rows program_file None × GivesFile rows record_file (Some path) × GivesFile rows names_file None
IsWhatIfFile rows (Some (supposed.Names path)) =
    GivesFile rows program_file None × GivesFile rows record_file None × GivesFile rows names_file (Some path)

-- how many files were given for these options
abbrev pub files_given : List Row → List Text → ℕ
files_given rows files = sum_by (λ file. length (values_at rows file)) files

-- more than one file was given for these options
abbrev pub AreTooMany : List Text → List Row → Type 0
AreTooMany files rows = 2 ≤ files_given rows files

-- `--typical` was given, and each row takes the median ticks of its def, or it was not
abbrev pub IsTypical : List Row → Bool → Type 0
IsTypical rows true = IsSet rows (codes "typical")
IsTypical rows false = IsUnset rows (codes "typical")

-- `--quiet` was given, and notes are left out, or it was not
abbrev pub IsQuiet : List Row → Bool → Type 0
IsQuiet rows true = IsSet rows (codes "quiet")
IsQuiet rows false = IsUnset rows (codes "quiet")

-- `--no-plan` was given, and the rows of plans are left out, or it was not
abbrev pub IsUnplanned : List Row → Bool → Type 0
IsUnplanned rows true = IsSet rows (codes "no-plan")
IsUnplanned rows false = IsUnset rows (codes "no-plan")

-- these plans were asked for: the greedy one by `--p`, and none of their rows by `--no-plan`
abbrev pub ArePlans : List Row → AskedPlans → Type 0
ArePlans rows plans = AreWorkers rows plans.workers × IsUnplanned rows plans.unplanned

-- this was asked of `profile`
abbrev pub AsksProfile : List Row → AskedProfile → Type 0
AsksProfile rows asked =
    IsSchedule rows asked.schedule × ArePlans rows asked.plans × AreShared rows asked.sharing × IsTypical rows asked.typical × IsQuiet rows asked.quiet

-- this of `curve`
abbrev pub AsksCurve : List Row → AskedCurve → Type 0
AsksCurve rows asked = IsSchedule rows asked.schedule × AreUpTo rows asked.most × AreShared rows asked.sharing × IsTypical rows asked.typical

-- this of `sweep`
abbrev pub AsksSweep : List Row → AskedSweep → Type 0
AsksSweep rows asked =
    IsSchedule rows asked.schedule × IsOver rows asked.over × AreShared rows asked.sharing × IsTypical rows asked.typical
    × GivesNumber best_option rows asked.best

-- this of `why`
abbrev pub AsksWhy : List Row → AskedWhy → Type 0
AsksWhy rows asked =
    IsSchedule rows asked.schedule × AreWorkers rows asked.workers × AreShared rows asked.sharing × IsTypical rows asked.typical × IsAll rows asked.all
    × GivesNumber then_option rows asked.then × IsQuiet rows asked.quiet

-- and this of `cowns`
abbrev pub AsksCowns : List Row → AskedCowns → Type 0
AsksCowns rows asked =
    IsSchedule rows asked.schedule × AreWorkers rows asked.workers × AreShared rows asked.sharing × IsTypical rows asked.typical
    × GivesNumber top_option rows asked.top × IsQuiet rows asked.quiet

-- ---- two inputs, and many runs

-- the second of two inputs was not given, or more than once
abbrev pub LacksAfter : List Row → Type 0
LacksAfter rows = (path : Text) → values_at rows after_operand ≢ path ∷ []

-- both inputs are standard input
abbrev pub AreBothStandard : List Row → Type 0
AreBothStandard rows = (values_at rows after_operand ≡ codes "-" ∷ []) × (values_at rows before_operand ≡ codes "-" ∷ [])

-- the second of two inputs has this path, and they are not both standard input
abbrev pub IsAfter : List Row → String Global → Type 0
IsAfter rows path = (values_at rows after_operand ≡ string_bytes path ∷ []) × (AreBothStandard rows → ⊥)

-- no file of names was given for an input, which is not a record; or this one: its own, or else the one for both
abbrev pub AreNames : Text → List Row → Option RunFile → Type 0
AreNames own rows None = GivesFile rows own None × GivesFile rows names_file None
AreNames own rows (Some (files.Names path)) = GivesFile rows own (Some path) ⊎ (GivesFile rows own None × GivesFile rows names_file (Some path))
AreNames own rows (Some (files.Record path)) = ⊥

-- two files of names were given for an input by one option
abbrev pub RepeatsNames : Text → List Row → Type 0
RepeatsNames own rows = AreTooMany (own ∷ []) rows ⊎ AreTooMany (names_file ∷ []) rows

-- these files were given beside the first of two inputs
abbrev pub AreCompareFiles : List Row → CompareFiles → Type 0
AreCompareFiles rows files =
    IsAfter rows files.after × AreNames before_names_file rows files.before_names × AreNames after_names_file rows files.after_names

-- this was asked of `compare`
abbrev pub AsksCompare : List Row → AskedCompare → Type 0
AsksCompare rows asked =
    IsSchedule rows asked.schedule × AreWorkers rows asked.workers × AreShared rows asked.sharing × IsTypical rows asked.typical × IsQuiet rows asked.quiet

-- an option was given where that is true, and not where it is false
abbrev pub HasSome : List Text → Bool → Type 0
HasSome texts true = texts ≢ []
HasSome texts false = texts ≡ []

-- a file of names was given, or none was
abbrev pub HasNames : List Row → Type 0
HasNames rows =
    HasSome (values_at rows names_file) true ⊎ (HasSome (values_at rows before_names_file) true ⊎ HasSome (values_at rows after_names_file) true)

abbrev pub HasNoNames : List Row → Type 0
HasNoNames rows =
    HasSome (values_at rows names_file) false × HasSome (values_at rows before_names_file) false × HasSome (values_at rows after_names_file) false

-- something was given that is of one run alone
abbrev pub IsOfOne : List Row → Type 0
IsOfOne rows =
    IsSet rows (codes "timed") ⊎ (IsSet rows (codes "typical") ⊎ (IsSet rows (codes "all") ⊎ (HasSome (values_at rows then_option.id) true
    ⊎ (HasSome (values_at rows record_file) true ⊎ HasNames rows))))

-- nothing was given that is
abbrev pub IsOfMany : List Row → Type 0
IsOfMany rows =
    IsUnset rows (codes "timed") × IsUnset rows (codes "typical") × IsUnset rows (codes "all") × HasSome (values_at rows then_option.id) false
    × HasSome (values_at rows record_file) false × HasNoNames rows

-- `--runs` was given
abbrev pub HasRuns : List Row → Type 0
HasRuns rows = HasSome (values_at rows runs_option.id) true

-- what was asked of many runs: how they are drawn, for how many workers they are judged, and how they share cowns
pub record AreRuns (rows : List Row) (asked : AskedRuns) : Type 0 where
  pub many : IsOfMany rows
  pub draws : AreDraws rows asked.draws
  pub workers : AreWorkers rows asked.workers
  pub sharing : AreShared rows asked.sharing
  pub quiet : IsQuiet rows asked.quiet

-- ---- a window of a stream

-- this was asked of `cut`: the window begins at the row of this rank, or at the first, and has at most so many rows that are spawned in it, if there is a limit
abbrev pub AsksCut : List Row → AskedCut → Type 0
AsksCut rows asked = GivesOr 0 from_option rows asked.from × GivesNumber window_rows_option rows asked.rows × IsQuiet rows asked.quiet

-- no file of names was given, or one for the stream and one for the window
abbrev pub AreCutNames : List Row → Option CutNames → Type 0
AreCutNames rows None = GivesFile rows names_file None × GivesFile rows out_names_file None
AreCutNames rows (Some files) = GivesFile rows names_file (Some files.names) × GivesFile rows out_names_file (Some files.out_names)

-- of the two files of names one was given, and not the other
abbrev pub HasOneName : List Row → Type 0
HasOneName rows = (HasSome (values_at rows names_file) true × HasSome (values_at rows out_names_file) false)
    ⊎ (HasSome (values_at rows names_file) false × HasSome (values_at rows out_names_file) true)

-- something was given that is of one window
abbrev pub HasWindow : List Row → Type 0
HasWindow rows =
    HasSome (values_at rows from_option.id) true ⊎ (HasSome (values_at rows window_rows_option.id) true ⊎ (HasSome (values_at rows names_file) true
    ⊎ HasSome (values_at rows out_names_file) true))

-- nothing was given that is
abbrev pub HasNoWindow : List Row → Type 0
HasNoWindow rows =
    HasSome (values_at rows from_option.id) false × HasSome (values_at rows window_rows_option.id) false × HasSome (values_at rows names_file) false
    × HasSome (values_at rows out_names_file) false

-- `--tiles` was given
abbrev pub HasTiles : List Row → Type 0
HasTiles rows = HasSome (values_at rows tiles_option.id) true

-- a stream is not to be cut into many windows, or into so many, and nothing was given that is of one
abbrev pub AreTiles : List Row → Option ℕ → Type 0
AreTiles rows None = GivesNumber tiles_option rows None
AreTiles rows (Some count) = GivesNumber tiles_option rows (Some count) × HasNoWindow rows

-- of `cut` what is of one window was given next to `--tiles`, or one file of names alone, or two by one option
abbrev pub IsUnfitCut : List Row → Type 0
IsUnfitCut rows = (HasTiles rows × HasWindow rows) ⊎ (HasOneName rows ⊎ (AreTooMany (names_file ∷ []) rows ⊎ AreTooMany (out_names_file ∷ []) rows))

-- ---- all ends of a program

-- something was given that is of draws
abbrev pub HasDraws : List Row → Type 0
HasDraws rows =
    HasSome (values_at rows runs_option.id) true ⊎ (HasSome (values_at rows seed_option.id) true ⊎ (HasSome (values_at rows runners_option.id) true
    ⊎ HasSome (values_at rows depth_option.id) true))

-- nothing was given that is
abbrev pub HasNoDraws : List Row → Type 0
HasNoDraws rows =
    HasSome (values_at rows runs_option.id) false × HasSome (values_at rows seed_option.id) false × HasSome (values_at rows runners_option.id) false
    × HasSome (values_at rows depth_option.id) false

-- something was given that is of a search of all ends
abbrev pub HasSearch : List Row → Type 0
HasSearch rows = HasSome (values_at rows most_option.id) true ⊎ HasSome (values_at rows end_option.id) true

-- nothing was given that is
abbrev pub HasNoSearch : List Row → Type 0
HasNoSearch rows = HasSome (values_at rows most_option.id) false × HasSome (values_at rows end_option.id) false

-- so many fronts are looked at at the most: 1,000,000 where no `--most` was given
abbrev pub AreMostFronts : List Row → ℕ → Type 0
AreMostFronts rows most = GivesOr 1000000 most_option rows most

-- all ends were asked for: `--all` was given, and nothing that is of draws; and so many fronts are looked at at the most
pub record AsksAllEnds (rows : List Row) (number : ℕ) : Type 0 where
  pub all : IsSet rows (codes "all")
  pub no_draws : HasNoDraws rows
  pub most : AreMostFronts rows number

-- these draws were asked for: no `--all` was given, and nothing that is of a search of all ends
pub record AsksDraws (rows : List Row) (asked : AskedDraws) : Type 0 where
  pub drawn : IsUnset rows (codes "all")
  pub no_search : HasNoSearch rows
  pub draws : AreDraws rows asked

-- of `outcomes` something of draws was given next to `--all`, or something of a search of all ends without it
abbrev pub IsUnfitEnds : List Row → Type 0
IsUnfitEnds rows = (IsSet rows (codes "all") × HasDraws rows) ⊎ (IsUnset rows (codes "all") × HasSearch rows)

-- `--short` was given, and the numbers before and after are told, or it was not
abbrev pub IsShort : List Row → Bool → Type 0
IsShort rows true = IsSet rows (codes "short")
IsShort rows false = IsUnset rows (codes "short")

-- the option was given, and there is no one number that it takes with it
pub record HasNoNumber (option : NumberOption) (rows : List Row) : Type 0 where
  pub given : values_at rows option.id ≡ [] → ⊥
  pub none : (number : ℕ) → IsNumberOf option.numbers number → IsGiven (values_at rows option.id) number → ⊥

-- one of these options was given, and there is no one number that it takes with it
abbrev pub MissesNumber : List NumberOption → List Row → Type 0
MissesNumber [] rows = ⊥
MissesNumber (option ∷ more) rows = HasNoNumber option rows ⊎ MissesNumber more rows

-- the words are those of these edits, in their order, each with what such a word can have
pub record AreEditsOf (words : List Text) (edits : List AskedEdit) : Type 0 where
  pub words_are : words ≡ map edit_word edits
  pub writable : All IsWritable edits

-- the words given as edits are those of these edits
abbrev pub AreEdits : List Row → List AskedEdit → Type 0
AreEdits rows edits = AreEditsOf (edit_words rows) edits

-- this is to change: rows take typical ticks, cowns are left out, defs spawn early, and these edits are made
abbrev pub AreChanges : List Row → AskedChanges → Type 0
AreChanges rows changes =
    IsTypical rows changes.typical × AreCowns rows changes.cowns.items × AreEarlyDefs rows changes.early.items × AreEdits rows changes.edits.items

-- of these words the one with this number, counted from 1, is the first that is no edit
pub record IsFirstMisspelt (words : List (List ℕ)) (number : ℕ) : Type 0 where
  pub before : List (List ℕ)
  pub word : List ℕ
  pub after : List (List ℕ)
  pub split : words ≡ before ++ (word ∷ after)
  pub number_is : number ≡ length before + 1
  pub spelt : All IsEditWord before
  pub misspelt : IsEditWord word → ⊥

-- the fault has an error of this kind, or says that memory was refused
abbrev pub IsOfKind : ErrorKind → WordsFault → Type 0
IsOfKind kind (faults.Parser e) = kind_of e ≡ kind
IsOfKind kind faults.Memory = Unit {0}
IsOfKind kind _ = ⊥

-- the fault says that the number behind an option cannot be read, or that memory was refused
abbrev pub IsOfNumber : NumberOption → List Row → WordsFault → Type 0
IsOfNumber option rows (faults.Parser e) = HasNoNumber option rows
IsOfNumber option rows faults.Memory = Unit {0}
IsOfNumber option rows _ = ⊥

-- the fault names the first of these words that is no edit, or says that memory was refused
abbrev pub IsOfWords : List Text → WordsFault → Type 0
IsOfWords words (faults.EditWord number) = IsFirstMisspelt words number
IsOfWords words faults.Memory = Unit {0}
IsOfWords words _ = ⊥

-- and of the words given as edits
abbrev pub IsOfEditWords : List Row → WordsFault → Type 0
IsOfEditWords rows fault = IsOfWords (edit_words rows) fault

-- the fault is a conflict of more paths than one, or says that memory was refused
abbrev pub IsOfPaths : List Text → WordsFault → Type 0
IsOfPaths paths (faults.Parser e) = (kind_of e ≡ kinds.ArgumentConflict) × (2 ≤ length paths)
IsOfPaths paths faults.Memory = Unit {0}
IsOfPaths paths _ = ⊥

-- and of those of files to read the input from
abbrev pub IsOfInput : Kind → List Row → WordsFault → Type 0
IsOfInput kind rows fault = IsOfPaths (input_words kind rows) fault

-- the fault is a conflict of options that are at odds, or says that the number behind `--p` cannot be read, or that memory was refused
abbrev pub IsOfSweep : List Row → WordsFault → Type 0
IsOfSweep rows (faults.Parser e) =
    HasNoNumber workers_option rows ⊎ ((kind_of e ≡ kinds.ArgumentConflict) × AreAtOdds rows)
IsOfSweep rows faults.Memory = Unit {0}
IsOfSweep rows _ = ⊥

-- the fault is a conflict of a depth without a seed, or says that the number behind `--workers`, `--seed` or `--depth` cannot be read, or that memory was
-- refused
abbrev pub IsOfUntimed : List Row → WordsFault → Type 0
IsOfUntimed rows (faults.Parser e) =
    MissesNumber (runners_option ∷ seed_option ∷ depth_option ∷ []) rows ⊎ ((kind_of e ≡ kinds.ArgumentConflict) × LacksSeed rows)
IsOfUntimed rows faults.Memory = Unit {0}
IsOfUntimed rows _ = ⊥

-- the fault says that the number behind `--workers` or `--p` cannot be read, or that memory was refused
abbrev pub IsOfTimedWorkers : List Row → WordsFault → Type 0
IsOfTimedWorkers rows (faults.Parser e) = MissesNumber (runners_option ∷ workers_option ∷ []) rows
IsOfTimedWorkers rows faults.Memory = Unit {0}
IsOfTimedWorkers rows _ = ⊥

-- the fault is one of these, or a conflict of `--timed` and a seed
abbrev pub IsOfSchedule : List Row → WordsFault → Type 0
IsOfSchedule rows (faults.Parser e) =
    MissesNumber (runners_option ∷ seed_option ∷ depth_option ∷ workers_option ∷ []) rows
    ⊎ ((kind_of e ≡ kinds.ArgumentConflict) × (LacksSeed rows ⊎ IsDrawnAndTimed rows))
IsOfSchedule rows faults.Memory = Unit {0}
IsOfSchedule rows _ = ⊥

-- the fault says that the number behind an option of `outcomes` cannot be read, or that memory was refused
abbrev pub IsOfDraws : List Row → WordsFault → Type 0
IsOfDraws rows (faults.Parser e) = MissesNumber (runs_option ∷ seed_option ∷ runners_option ∷ depth_option ∷ []) rows
IsOfDraws rows faults.Memory = Unit {0}
IsOfDraws rows _ = ⊥

-- the fault says that the number behind an option of a search of all ends cannot be read, or that memory was refused
abbrev pub IsOfSearch : List Row → WordsFault → Type 0
IsOfSearch rows (faults.Parser e) = MissesNumber (most_option ∷ end_option ∷ []) rows
IsOfSearch rows faults.Memory = Unit {0}
IsOfSearch rows _ = ⊥

-- the fault is a conflict: there is no second input, or both are standard input; or it says that memory was refused
abbrev pub IsOfAfter : List Row → WordsFault → Type 0
IsOfAfter rows (faults.Parser e) = (kind_of e ≡ kinds.ArgumentConflict) × (LacksAfter rows ⊎ AreBothStandard rows)
IsOfAfter rows faults.Memory = Unit {0}
IsOfAfter rows _ = ⊥

-- the fault is a conflict of two files of names by one option, or says that memory was refused
abbrev pub IsOfNames : Text → List Row → WordsFault → Type 0
IsOfNames own rows (faults.Parser e) = (kind_of e ≡ kinds.ArgumentConflict) × RepeatsNames own rows
IsOfNames own rows faults.Memory = Unit {0}
IsOfNames own rows _ = ⊥

-- the fault is a conflict of many runs with what is of one alone, or says that a number behind an option cannot be read, or that memory was refused
abbrev pub IsOfRuns : List Row → WordsFault → Type 0
IsOfRuns rows (faults.Parser e) =
    MissesNumber (runs_option ∷ seed_option ∷ runners_option ∷ depth_option ∷ workers_option ∷ []) rows
    ⊎ ((kind_of e ≡ kinds.ArgumentConflict) × IsOfOne rows)
IsOfRuns rows faults.Memory = Unit {0}
IsOfRuns rows _ = ⊥

-- the fault is a conflict of `--tiles` with what is of one window, or says that the number behind `--tiles` cannot be read, or that memory was refused
abbrev pub IsOfTiles : List Row → WordsFault → Type 0
IsOfTiles rows (faults.Parser e) = HasNoNumber tiles_option rows ⊎ ((kind_of e ≡ kinds.ArgumentConflict) × HasTiles rows × HasWindow rows)
IsOfTiles rows faults.Memory = Unit {0}
IsOfTiles rows _ = ⊥

-- the fault is a conflict of files of names: one alone, or two by one option; or it says that memory was refused
abbrev pub IsOfCutNames : List Row → WordsFault → Type 0
IsOfCutNames rows (faults.Parser e) =
    (kind_of e ≡ kinds.ArgumentConflict) × (HasOneName rows ⊎ (AreTooMany (names_file ∷ []) rows ⊎ AreTooMany (out_names_file ∷ []) rows))
IsOfCutNames rows faults.Memory = Unit {0}
IsOfCutNames rows _ = ⊥

-- the fault is a conflict of more files than one, or says that memory was refused
abbrev pub IsOfFiles : List Text → List Row → WordsFault → Type 0
IsOfFiles files rows (faults.Parser e) = (kind_of e ≡ kinds.ArgumentConflict) × AreTooMany files rows
IsOfFiles files rows faults.Memory = Unit {0}
IsOfFiles files rows _ = ⊥

-- ---- what a command that was named asks for

-- this command was named, and this holds of what was found for it
abbrev pub Names : Option (List ℕ × List Row) → Kind → (List Row → Type 0) → Type 0
Names named kind Holds = (rows : List Row) × (named ≡ Some ((signature_of kind).0, rows)) × Holds rows

-- with what was found for it this command asks for this
abbrev pub Asks : Kind → List Row → Command → Type 0
Asks kind rows (commands.Values record_path quiet) = (kind ≡ called.Values) × GivesFile rows record_file record_path × IsQuiet rows quiet
Asks kind rows (commands.Check program_path) = (kind ≡ called.Check) × GivesFile rows program_file program_path
Asks kind rows (commands.Cut asked files) =
    (kind ≡ called.Cut) × HasSome (values_at rows tiles_option.id) false × AsksCut rows asked × AreCutNames rows files
Asks kind rows (commands.Tiles count) = (kind ≡ called.Cut) × AreTiles rows (Some count)
Asks kind rows (commands.Run schedule quiet) = (kind ≡ called.Run) × IsSchedule rows schedule × IsQuiet rows quiet
Asks kind rows (commands.Profile asked record_path) = (kind ≡ called.Profile) × AsksProfile rows asked × GivesFile rows record_file record_path
Asks kind rows (commands.Time schedule plans sharing quiet) =
    (kind ≡ called.Time) × IsSchedule rows schedule × ArePlans rows plans × AreShared rows sharing × IsQuiet rows quiet
Asks kind rows (commands.WhatIf schedule changes plans sharing file short) =
    (kind ≡ called.WhatIf) × IsSchedule rows schedule × AreChanges rows changes × ArePlans rows plans × AreShared rows sharing × IsWhatIfFile rows file
    × IsShort rows short
Asks kind rows (commands.Curve asked record_path) = (kind ≡ called.Curve) × AsksCurve rows asked × GivesFile rows record_file record_path
Asks kind rows (commands.Sweep asked file) = (kind ≡ called.Sweep) × AsksSweep rows asked × IsRunFile rows file
Asks kind rows (commands.Why asked file) =
    (kind ≡ called.Why) × HasSome (values_at rows runs_option.id) false × AsksWhy rows asked × IsRunFile rows file
Asks kind rows (commands.WhyRuns asked) = (kind ≡ called.Why) × HasRuns rows × AreRuns rows asked
Asks kind rows (commands.Compare asked files) =
    (kind ≡ called.Compare) × HasSome (values_at rows runs_option.id) false × AsksCompare rows asked × AreCompareFiles rows files
Asks kind rows (commands.CompareRuns asked after) = (kind ≡ called.Compare) × HasRuns rows × AreRuns rows asked × IsAfter rows after
Asks kind rows (commands.Cowns asked file) = (kind ≡ called.Cowns) × AsksCowns rows asked × IsRunFile rows file
Asks kind rows (commands.Outcomes draws) = (kind ≡ called.Outcomes) × AsksDraws rows draws
Asks kind rows (commands.AllEnds most) = (kind ≡ called.Outcomes) × AsksAllEnds rows most × GivesNumber end_option rows None
Asks kind rows (commands.EndRun most number) = (kind ≡ called.Outcomes) × AsksAllEnds rows most × GivesNumber end_option rows (Some number)
Asks kind rows (commands.Help text) = ⊥
Asks kind rows commands.Version = ⊥

-- what was named asks for this, with the input from there
abbrev pub IsNamed : Option (List ℕ × List Row) → CommandLine → Type 0
IsNamed named line = (kind : Kind) × Names named kind (λ rows. Asks kind rows line.command × ReadsFrom kind rows line.input)

-- the name is that of none of these commands
abbrev pub IsNoneOf : Text → List (Text × List Argument) → Type 0
IsNoneOf name [] = Unit {0}
IsNoneOf name (command ∷ more) = (name ≢ command.0) × IsNoneOf name more

-- what was named is none of the commands
abbrev pub IsUnknown : Option (List ℕ × List Row) → Type 0
IsUnknown named = (name : List ℕ) (rows : List Row) → named ≡ Some (name, rows) → IsNoneOf name commands_of_boc

-- an option of the command that was named has no number that can be read
abbrev pub HasNoNumbers : Option (List ℕ × List Row) → Type 0
HasNoNumbers named = (kind : Kind) × Names named kind (MissesNumber number_options)

-- the command runs a program by a schedule
abbrev pub HasSchedule : Kind → Type 0
HasSchedule kind =
    (kind ≡ called.Run) ⊎ ((kind ≡ called.Profile) ⊎ ((kind ≡ called.Time) ⊎ ((kind ≡ called.WhatIf) ⊎ ((kind ≡ called.Curve)
    ⊎ ((kind ≡ called.Sweep) ⊎ ((kind ≡ called.Why) ⊎ ((kind ≡ called.Cowns) ⊎ (kind ≡ called.Compare))))))))

-- more than one file is given for the input
abbrev pub HasInputs : Kind → List Row → Type 0
HasInputs kind rows = 2 ≤ length (input_words kind rows)

-- the command reports on many runs where that is asked for
abbrev pub TakesRuns : Kind → Type 0
TakesRuns kind = (kind ≡ called.Why) ⊎ (kind ≡ called.Compare)

-- of `compare` there is no second input, or both are standard input, or two files of names were given by one option
abbrev pub IsUnfitPair : List Row → Type 0
IsUnfitPair rows = (LacksAfter rows ⊎ AreBothStandard rows) ⊎ (RepeatsNames before_names_file rows ⊎ RepeatsNames after_names_file rows)

-- what the parser takes for this command does not fit, for a conflict: of a sweep, options that are at odds; of a command that runs a program by a
-- schedule, a depth without a seed, or `--timed` with a seed; of any command, more files than one beside its input, or for it; of a command that may report
-- on many runs, what is of one alone; of `compare`, inputs or files of names; of `cut`, `--tiles` with what is of one window, or files of names; of
-- `outcomes`, `--all` with what is of draws, or what is of a search of all ends without it
pub record IsUnfit (kind : Kind) (rows : List Row) (error : ErrorKind) : Type 0 where
  pub conflict : error ≡ kinds.ArgumentConflict
  pub why : ((kind ≡ called.Sweep) × AreAtOdds rows) ⊎ ((HasSchedule kind × (LacksSeed rows ⊎ IsDrawnAndTimed rows))
      ⊎ ((AreTooMany (files_of kind) rows ⊎ HasInputs kind rows)
      ⊎ ((TakesRuns kind × HasRuns rows × IsOfOne rows) ⊎ (((kind ≡ called.Compare) × IsUnfitPair rows)
      ⊎ (((kind ≡ called.Cut) × IsUnfitCut rows) ⊎ ((kind ≡ called.Outcomes) × IsUnfitEnds rows))))))

-- a command was named, and what was found for it does not fit, for an error of this kind
abbrev pub HasUnfit : Option (List ℕ × List Row) → ErrorKind → Type 0
HasUnfit named error = (kind : Kind) × Names named kind (λ rows. IsUnfit kind rows error)

-- no more than one file was given beside the input, and of the edits the one with this number is the first that is misspelt
abbrev pub AreMisspelt : List Row → ℕ → Type 0
AreMisspelt rows number = (AreTooMany (files_of called.WhatIf) rows → ⊥) × IsFirstMisspelt (edit_words rows) number

-- and no more than one for the input
abbrev pub IsMisspelling : List Row → ℕ → Type 0
IsMisspelling rows number = AreMisspelt rows number × (HasInputs called.WhatIf rows → ⊥)

-- of a command that was named an option has no number that can be read, or something does not fit, or of the edits the first is misspelt
abbrev pub IsUnread : Kind → List Row → WordsFault → Type 0
IsUnread kind rows (faults.Parser e) = MissesNumber number_options rows ⊎ IsUnfit kind rows (kind_of e)
IsUnread kind rows (faults.EditWord number) = (kind ≡ called.WhatIf) × AreMisspelt rows number
IsUnread kind rows faults.Memory = Unit {0}

-- what was named is no command that can be done
abbrev pub IsMisnamed : Option (List ℕ × List Row) → WordsFault → Type 0
IsMisnamed named (faults.Parser e) = IsUnknown named ⊎ (HasNoNumbers named ⊎ HasUnfit named (kind_of e))
IsMisnamed named (faults.EditWord number) = Names named called.WhatIf (λ rows. IsMisspelling rows number)
IsMisnamed named faults.Memory = Unit {0}

-- ---- what a refusal of the parser comes to

-- a refusal of this kind is a call for the text that the command answers: for help, or for the version
abbrev pub IsTextOfKind : ErrorKind → Command → Type 0
IsTextOfKind kind (commands.Help text) = kind ≡ kinds.DisplayHelp
IsTextOfKind kind commands.Version = kind ≡ kinds.DisplayVersion
IsTextOfKind kind _ = ⊥

-- a refusal of this kind is a call for no text
abbrev pub IsNoCall : ErrorKind → Type 0
IsNoCall kind = (kind ≢ kinds.DisplayHelp) × (kind ≢ kinds.DisplayVersion)

-- the fault has this error of the parser, which is neither a call for a text nor want of memory, or memory was refused
abbrev pub IsOfError : Error → WordsFault → Type 0
IsOfError error (faults.Parser e) = (e ≡ error) × (kind_of error ≢ kinds.OutOfMemory) × IsNoCall (kind_of error)
IsOfError error faults.Memory = Unit {0}
IsOfError error _ = ⊥

-- the fault says that a word is no text, or that memory was refused
abbrev pub IsOfNoText : WordsFault → Type 0
IsOfNoText fault = IsOfKind kinds.ValueValidation fault

-- ---- what the words ask for

-- the parser has nothing against the words
abbrev pub AreTaken : List (List ℕ) → Type 0
AreTaken words = fault_of command_line words ≡ []

-- the words ask for this command: for help or for the version where the parser answers with it, and then of no input, and else for the one that
-- they name
abbrev pub IsAskedAs : List (List ℕ) → CommandLine → Command → Type 0
IsAskedAs words line (commands.Help text) = IsAmong kinds.DisplayHelp (fault_of command_line words) × (line.input ≡ None)
IsAskedAs words line commands.Version = IsAmong kinds.DisplayVersion (fault_of command_line words) × (line.input ≡ None)
IsAskedAs words line _ = AreTaken words × IsNamed (subcommand_of command_line words) line

-- the words ask for this
abbrev pub IsAsked : List (List ℕ) → CommandLine → Type 0
IsAsked words line = IsAskedAs words line line.command

-- the words are refused with this fault: the parser's, where it is not help or the version that it answers; or, where the parser takes them,
-- for what does not fit, or of edits the first that is misspelt
abbrev pub IsRefused : List (List ℕ) → WordsFault → Type 0
IsRefused words (faults.Parser e) = (IsAmong (kind_of e) (fault_of command_line words) × IsNoCall (kind_of e))
    ⊎ (AreTaken words × HasUnfit (subcommand_of command_line words) (kind_of e))
IsRefused words (faults.EditWord number) =
    AreTaken words × Names (subcommand_of command_line words) called.WhatIf (λ rows. IsMisspelling rows number)
IsRefused words faults.Memory = Unit {0}
