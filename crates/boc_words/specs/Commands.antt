-- The commands, and which arguments each takes.
use Rattle.std.specs.Prelude.{◌<◌, ◌≤◌, ◌-◌, ◌^◌, ℕ, List, [], ◌∷◌, Option, Some, None, map, pos, true, codes}
use Rattle.std.specs.Str.{byte}
use Rattle.clap.specs.Lexer.{usize_max}
use Rattle.clap.specs.Simple.{new_shape}
use Rattle.clap.specs.Words.{App, Rule, Shape, Text, new_rule}
use Rattle.clap.specs.declared.builder.action.ArgAction.TheVariants as actions
use Rattle.clap.specs.declared.builder.value_parser.ValueParser.{ValueParser}
use Rattle.clap.specs.declared.builder.value_parser.ValueParser.TheVariants as parsers
use Rattle.boc_words.specs.declared.arguments.TheConstants.{MOST_CHANGES, MOST_FRONTS}
use Rattle.boc_program.specs.declared.limits.TheConstants.{MOST_COWNS, MOST_DEPTH, MOST_ROWS, MOST_RUNNERS, MOST_RUNS, MOST_WORKERS}
use Rattle.boc_words.specs.declared.arguments.Numbers.{Numbers}
use Rattle.boc_words.specs.declared.arguments.Numbers.TheVariants.{UpTo, Every}
use Rattle.boc_words.specs.declared.commands.Kind.{Kind}
use Rattle.boc_words.specs.declared.commands.Kind.TheVariants as kinds

-- ---- what a command may take

-- an option with a number, `--ID NUMBER` or with a letter too `-LETTER NUMBER`, and which numbers it takes
pub record NumberOption : Type 0 where
  pub id : Text
  pub letter : Option ℕ
  pub numbers : Numbers

-- an argument: an option with a number; a flag, `--ID`; an option with a text, `--ID TEXT`, that may be given many times; one word that has to be there; one
-- word; or any number of words
pub data Argument : Type 0 where
  number : NumberOption → Argument
  flag : Text → Argument
  repeated : Text → Argument
  needed : Text → Argument
  operand : Text → Argument
  operands : Text → Argument

-- `--workers N` or `-w N`, of so many threads that run a program
abbrev pub runners_option : NumberOption
runners_option = record { id = codes "workers"; letter = Some (byte "w"); numbers = UpTo MOST_RUNNERS }

-- `--p P` or `-p P`, of so many workers of a greedy plan, or of up to so many
abbrev pub workers_option : NumberOption
workers_option = record { id = codes "p"; letter = Some (byte "p"); numbers = UpTo MOST_WORKERS }

-- `--seed S`, by which the worker that moves next is picked
abbrev pub seed_option : NumberOption
seed_option = record { id = codes "seed"; letter = None; numbers = Every }

-- `--top K`, of so many cowns at the most
abbrev pub top_option : NumberOption
top_option = record { id = codes "top"; letter = None; numbers = UpTo MOST_COWNS }

-- `--then K`, by which so many changes are made, one on top of the other
abbrev pub then_option : NumberOption
then_option = record { id = codes "then"; letter = None; numbers = UpTo MOST_CHANGES }

-- `--depth D`, of priorities with so many points less one at which the worker that would move falls to the last
abbrev pub depth_option : NumberOption
depth_option = record { id = codes "depth"; letter = None; numbers = UpTo MOST_DEPTH }

-- `--runs K`, of so many runs that are drawn
abbrev pub runs_option : NumberOption
runs_option = record { id = codes "runs"; letter = None; numbers = UpTo MOST_RUNS }

-- `--best K`, of so many lines of a sweep at the most
abbrev pub best_option : NumberOption
best_option = record { id = codes "best"; letter = None; numbers = UpTo MOST_ROWS }

-- `--from RANK`, of the row among those that a stream spawns at which a window begins
abbrev pub from_option : NumberOption
from_option = record { id = codes "from"; letter = None; numbers = Every }

-- `--rows N`, of so many rows at the most that are spawned in a window
abbrev pub window_rows_option : NumberOption
window_rows_option = record { id = codes "rows"; letter = None; numbers = UpTo MOST_ROWS }

-- `--tiles K`, of so many windows into which a stream is cut
abbrev pub tiles_option : NumberOption
tiles_option = record { id = codes "tiles"; letter = None; numbers = UpTo MOST_ROWS }

-- `--most FRONTS`, of so many fronts at the most that a search of all ends looks at
abbrev pub most_option : NumberOption
most_option = record { id = codes "most"; letter = None; numbers = UpTo MOST_FRONTS }

-- `--end K`, of the end of which a run is recorded
abbrev pub end_option : NumberOption
end_option = record { id = codes "end"; letter = None; numbers = UpTo MOST_FRONTS }

-- every option with a number
abbrev pub number_options : List NumberOption
number_options = runners_option ∷ seed_option ∷ workers_option ∷ top_option ∷ depth_option ∷ runs_option ∷ best_option ∷ then_option ∷ from_option
    ∷ window_rows_option ∷ tiles_option ∷ most_option ∷ end_option ∷ []

-- `--shared-reads`
abbrev pub sharing_flag : Argument
sharing_flag = flag (codes "shared-reads")

-- `--cowns`, by which a sweep leaves out cowns
abbrev pub cowns_flag : Argument
cowns_flag = flag (codes "cowns")

-- `--spawns`, by which a sweep spawns rows earlier
abbrev pub spawns_flag : Argument
spawns_flag = flag (codes "spawns")

-- `--timed`, by which ticks are time for the workers
abbrev pub timed_flag : Argument
timed_flag = flag (codes "timed")

-- `--all`, by which all of a chain is told, or all ends of a program are searched for
abbrev pub all_flag : Argument
all_flag = flag (codes "all")

-- `--quiet`, by which notes are left out
abbrev pub quiet_flag : Argument
quiet_flag = flag (codes "quiet")

-- `--no-plan`, by which the rows of plans are left out
abbrev pub no_plan_flag : Argument
no_plan_flag = flag (codes "no-plan")

-- `--without COWN`, as often as one likes
abbrev pub without_option : Argument
without_option = repeated (codes "without")

-- `--early DEF`, as often as one likes
abbrev pub early_option : Argument
early_option = repeated (codes "early")

-- `--typical`, by which each row takes the median ticks of its def
abbrev pub typical_flag : Argument
typical_flag = flag (codes "typical")

-- `--short`, by which the numbers before and after are told in place of a report
abbrev pub short_flag : Argument
short_flag = flag (codes "short")

-- `--program FILE`, of the program that a record is of
abbrev pub program_file : Text
program_file = codes "program"

-- `--record FILE`, of the record of the run of a program
abbrev pub record_file : Text
record_file = codes "record"

-- `--names FILE`, of what rows and cowns are called
abbrev pub names_file : Text
names_file = codes "names"

-- `--names-a FILE` and `--names-b FILE`, of what they are called in the first of two inputs, and in the second
abbrev pub before_names_file : Text
before_names_file = codes "names-a"

abbrev pub after_names_file : Text
after_names_file = codes "names-b"

-- `--out-names FILE`, of what rows and cowns of a window are called
abbrev pub out_names_file : Text
out_names_file = codes "out-names"

-- the files that two inputs are read from
abbrev pub before_operand : Text
before_operand = codes "before"

abbrev pub after_operand : Text
after_operand = codes "after"

-- the file that the input is read from
abbrev pub input_operand : Argument
input_operand = operand (codes "file")

-- the words of edits, and the one of the file that the input is read from
abbrev pub edits_operands : Argument
edits_operands = operands (codes "edits")

-- ---- the commands

-- the name of a command, and which arguments it takes
abbrev pub signature_of : Kind → Text × List Argument
signature_of kinds.Values = (codes "values", repeated record_file ∷ quiet_flag ∷ input_operand ∷ [])
signature_of kinds.Check = (codes "check", repeated program_file ∷ input_operand ∷ [])
signature_of kinds.Cut = (
  codes "cut",
  number from_option ∷ number window_rows_option ∷ number tiles_option ∷ repeated names_file ∷ repeated out_names_file ∷ quiet_flag ∷ input_operand ∷ [],
)
signature_of kinds.Run =
    (codes "run", number runners_option ∷ number seed_option ∷ number depth_option ∷ timed_flag ∷ quiet_flag ∷ input_operand ∷ [])
signature_of kinds.Profile = (
  codes "profile",
  number runners_option ∷ number seed_option ∷ number depth_option ∷ timed_flag ∷ number workers_option ∷ sharing_flag ∷ typical_flag ∷ repeated record_file
      ∷ no_plan_flag ∷ quiet_flag ∷ input_operand ∷ [],
)
signature_of kinds.Time = (
  codes "time",
  number runners_option ∷ number seed_option ∷ number depth_option ∷ timed_flag ∷ number workers_option ∷ sharing_flag ∷ no_plan_flag ∷ quiet_flag
      ∷ input_operand ∷ [],
)
signature_of kinds.WhatIf = (
  codes "whatif",
  number runners_option ∷ number seed_option ∷ number depth_option ∷ timed_flag ∷ number workers_option ∷ sharing_flag ∷ typical_flag ∷ without_option
      ∷ early_option ∷ repeated record_file ∷ repeated program_file ∷ repeated names_file ∷ short_flag ∷ no_plan_flag ∷ edits_operands ∷ [],
)
signature_of kinds.Curve = (
  codes "curve",
  number runners_option ∷ number seed_option ∷ number depth_option ∷ timed_flag ∷ number workers_option ∷ sharing_flag ∷ typical_flag ∷ repeated record_file
      ∷ input_operand ∷ [],
)
signature_of kinds.Sweep = (
  codes "sweep",
  number runners_option ∷ number seed_option ∷ number depth_option ∷ timed_flag ∷ number workers_option ∷ cowns_flag ∷ spawns_flag ∷ sharing_flag ∷ typical_flag
      ∷ repeated record_file ∷ repeated names_file ∷ number best_option ∷ input_operand ∷ [],
)
signature_of kinds.Why = (
  codes "why",
  number runners_option ∷ number seed_option ∷ number depth_option ∷ timed_flag ∷ number workers_option ∷ sharing_flag ∷ typical_flag ∷ repeated record_file
      ∷ repeated names_file ∷ all_flag ∷ number then_option ∷ number runs_option ∷ quiet_flag ∷ input_operand ∷ [],
)
signature_of kinds.Cowns = (
  codes "cowns",
  number runners_option ∷ number seed_option ∷ number depth_option ∷ timed_flag ∷ number workers_option ∷ sharing_flag ∷ typical_flag ∷ repeated record_file
      ∷ repeated names_file ∷ number top_option ∷ quiet_flag ∷ input_operand ∷ [],
)
signature_of kinds.Compare = (
  codes "compare",
  number runners_option ∷ number seed_option ∷ number depth_option ∷ timed_flag ∷ number workers_option ∷ sharing_flag ∷ typical_flag ∷ repeated names_file
      ∷ repeated before_names_file ∷ repeated after_names_file ∷ number runs_option ∷ quiet_flag ∷ needed before_operand ∷ needed after_operand ∷ [],
)
signature_of kinds.Outcomes = (
  codes "outcomes",
  number runs_option ∷ number seed_option ∷ number runners_option ∷ number depth_option ∷ all_flag ∷ number most_option ∷ number end_option
      ∷ input_operand ∷ [],
)

-- the files that a command may read beside its input, of which it takes one
abbrev pub files_of : Kind → List Text
files_of kinds.Values = record_file ∷ []
files_of kinds.Check = program_file ∷ []
files_of kinds.Profile = record_file ∷ []
files_of kinds.WhatIf = program_file ∷ record_file ∷ names_file ∷ []
files_of kinds.Curve = record_file ∷ []
files_of kinds.Sweep = record_file ∷ names_file ∷ []
files_of kinds.Why = record_file ∷ names_file ∷ []
files_of kinds.Cowns = record_file ∷ names_file ∷ []
files_of _ = []

-- every command, in the order of help
abbrev pub every_kind : List Kind
every_kind = kinds.Values ∷ kinds.Check ∷ kinds.Cut ∷ kinds.Run ∷ kinds.Profile ∷ kinds.Time ∷ kinds.WhatIf ∷ kinds.Curve ∷ kinds.Sweep ∷ kinds.Why
    ∷ kinds.Cowns ∷ kinds.Compare ∷ kinds.Outcomes ∷ []

-- each by its name, with what it takes
abbrev pub commands_of_boc : List (Text × List Argument)
commands_of_boc = map signature_of every_kind

-- ---- what the parser has of them

-- the number is one of these: from 1 up to the most, or any of 64 bits
abbrev pub IsNumberOf : Numbers → ℕ → Type 0
IsNumberOf (UpTo most) n = (0 < n) × (n ≤ most)
IsNumberOf Every n = n < 2 ^ 64

-- the parser of these numbers
abbrev pub parser_of : Numbers → ValueParser
parser_of (UpTo most) = parsers.Signed (pos 1) (pos most)
parser_of Every = parsers.Unsigned 0 (2 ^ 64 - 1)

-- the argument, of which the parser has this
abbrev pub rule_at : Argument → Rule
rule_at (number option) = record (new_rule option.id) {
  long = Some option.id;
  short = option.letter;
  value_names = 1;
  parser = Some (parser_of option.numbers);
}
rule_at (flag id) = record (new_rule id) {
  long = Some id;
  action = Some actions.SetTrue;
}
rule_at (repeated id) = record (new_rule id) {
  long = Some id;
  value_names = 1;
  action = Some actions.Append;
}
rule_at (needed id) = record (new_rule id) {
  value_names = 1;
  required = true;
}
rule_at (operand id) = record (new_rule id) { value_names = 1 }
rule_at (operands id) = record (new_rule id) {
  value_names = 1;
  range = Some (record { start_inclusive = 0; end_inclusive = usize_max });
}

-- the command, of which the parser has this
abbrev pub shape_of_command : Text × List Argument → Shape
shape_of_command command = record (new_shape command.0) { rules = map rule_at command.1 }

-- and as a parser of its own
abbrev pub app_of_command : Text × List Argument → App
app_of_command command = record { top = shape_of_command command; subs = [] }
