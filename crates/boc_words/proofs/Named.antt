-- Words that the parser has nothing against name a command.
use Rattle.std.proofs.Common.{◌≡◌, ◌⊎◌, ◌∙◌, ◌||◌, ◌++◌, ℕ, Bool, true, false, not, List, [], ◌∷◌, Option, Some, None}
use Rattle.std.proofs.Common.{map, refl, ap, inl, inr, codes}
use Rattle.std.specs.Prelude.{IfSome, find, is_some, option_map, if◌then◌else◌}
use Rattle.std.specs.List.{list_all, list_any}
use Rattle.std.specs.Option.{option_map_or}
use Rattle.std.specs.Str.{bytes_eq}
use Rattle.std.proofs.lemmas.Bool.{and_parts}
use Rattle.std.proofs.lemmas.Slice.Eq.{bytes_eq-Decides}
use Rattle.clap.specs.Facts.{explicit_source}
use Rattle.clap.specs.Faults.{check_fault, defaults_fault, entered_fault, level_fault, settle_fault, walk_fault}
use Rattle.clap.specs.Simple.{Shape, argument_words, built, built_leaf, entered, filled_from, help_rule, help_shape, index_after, inherited, label_of}
use Rattle.clap.specs.Simple.{marked_built, names_of, rows_at, with_leaf_noted}
use Rattle.clap.specs.Walk.{Row, Text, answers_to, finished, nothing_held, settled, walk, walk_from}
use Rattle.clap.specs.Words.{App, subcommand_of}
use Rattle.clap.specs.declared.error.kind.ErrorKind.TheVariants as kind
use Rattle.boc_words.specs.Commands.{Argument, NumberOption, commands_of_boc, number_options, rule_at, shape_of_command}
use Rattle.boc_words.specs.Words.{AreTaken, command_line}
use Rattle.boc_words.proofs.Numbers.{HaveOne}
use Rattle.boc_words.proofs.Stops.{IsOther, walk_other}
use Rattle.boc_words.proofs.Uses.{fine_all, help_fine, help_keeps, keep_all, keeps}
use Rattle.boc_words.proofs.Walks.{AllFine, AllKeep, level_good, neither}

-- ---- what stands in the rows of a command

-- at most one number for each option
abbrev pub HasNumbers : List Row → Type 0
HasNumbers = HaveOne number_options

no_rows : (options : List NumberOption) → HaveOne options []
no_rows [] = tt
no_rows (option ∷ more) = (tt, no_rows more)

-- each use of these arguments keeps the rows to that
abbrev all_keep : List Argument → Bool
all_keep takes = list_all (λ a. list_all (keeps a) number_options) takes

fine_rules : (takes : List Argument) (i : ℕ) → all_keep takes ≡ true
    → AllFine HasNumbers false (filled_from i (map rule_at takes ++ help_rule ∷ []))
fine_rules [] i all = (help_fine HasNumbers i, tt)
fine_rules (a ∷ takes) i all =
    let both = and_parts (list_all (keeps a) number_options) (all_keep takes) all in
    (fine_all a i number_options both.0, fine_rules takes (index_after i (rule_at a)) both.1)

keep_rules : (takes : List Argument) (i : ℕ) → all_keep takes ≡ true
    → AllKeep HasNumbers (filled_from i (map rule_at takes ++ help_rule ∷ []))
keep_rules [] i all = (help_keeps HasNumbers i, tt)
keep_rules (a ∷ takes) i all =
    let both = and_parts (list_all (keeps a) number_options) (all_keep takes) all in
    (keep_all a i number_options both.0, keep_rules takes (index_after i (rule_at a)) both.1)

-- ---- the commands

-- the name is that of one of these commands
abbrev pub IsKnown : Text → List (Text × List Argument) → Type 0
IsKnown name [] = ⊥
IsKnown name (command ∷ more) = (name ≡ command.0) ⊎ IsKnown name more

-- the name of a command, with at most one number for each option
abbrev pub IsCommand : Text × List Row → Type 0
IsCommand found = IsKnown found.0 commands_of_boc × HasNumbers found.1

-- words that name it, and are no call for help, lead to a command
abbrev Leads : Shape → Type 0
Leads s = (word : Text) (words : List Text) → answers_to word (label_of s) ≡ true → bytes_eq word (codes "help") ≡ false
    → level_fault s [] nothing_held words false [] ≡ [] → IsCommand (rows_at s words)

abbrev AllLead : List Shape → Type 0
AllLead [] = Unit {0}
AllLead (s ∷ shapes) = Leads s × AllLead shapes

lead_found : (word : Text) (shapes : List Shape) → AllLead shapes
    → IfSome (find (λ s. answers_to word (label_of s)) shapes) (λ s. (answers_to word (label_of s) ≡ true) × Leads s)
lead_found word [] leads = tt
lead_found word (s ∷ shapes) leads = go (answers_to word (label_of s)) refl (lead_found word shapes leads.1)
  where
    go : (b : Bool) → answers_to word (label_of s) ≡ b
        → IfSome (find (λ s. answers_to word (label_of s)) shapes) (λ s. (answers_to word (label_of s) ≡ true) × Leads s)
        → IfSome (if b then Some s else find (λ s. answers_to word (label_of s)) shapes) (λ s. (answers_to word (label_of s) ≡ true) × Leads s)
    go true is rest = (is, leads.0)
    go false is rest = rest

-- the subcommand `help` answers to nothing else
no_help : (word : Text) → (bytes_eq (codes "help") word || false) ≡ true → bytes_eq word (codes "help") ≡ false → ⊥
no_help word is other = go (bytes_eq (codes "help") word) refl is
  where
    go : (b : Bool) → bytes_eq (codes "help") word ≡ b → (b || false) ≡ true → ⊥
    go true same clear =
        let e : bytes_eq (codes "help") (codes "help") ≡ false =
        ap (λ w. bytes_eq w (codes "help")) ((bytes_eq-Decides (codes "help") word).0 same) ∙ other in
        cc
    go false same clear = cc

-- what the subcommands take over from `boc`
abbrev above : Shape
above = with_leaf_noted (marked_built command_line.top)

-- the commands as they are built, and the subcommand `help` behind them
abbrev built_commands : List (Text × List Argument) → List Shape
built_commands commands = map built_leaf (map (inherited above) (map shape_of_command commands) ++ help_shape ∷ [])

-- the commands keep the numbers
abbrev commands_keep : List (Text × List Argument) → Bool
commands_keep commands = list_all (λ command. all_keep command.1) commands

lead_each : (commands : List (Text × List Argument)) → ((name : Text) → IsKnown name commands → IsKnown name commands_of_boc)
    → commands_keep commands ≡ true → AllLead (built_commands commands)
lead_each [] known all = ((λ word words is other none. absurd (no_help word is other)), tt)
lead_each (command ∷ more) known all =
    let both = and_parts (all_keep command.1) (commands_keep more) all in
    let shape : Shape = built_leaf (inherited above (shape_of_command command)) in (
      (λ word words is other none. (
        known command.0 (inl refl),
        level_good HasNumbers shape (fine_rules command.1 1 both.0) words [] (keep_rules command.1 1 both.0) none (no_rows number_options),
      )),
      lead_each more (λ name is. known name (inr is)) both.1,
    )

all_lead : AllLead (built command_line).subs
all_lead = lead_each commands_of_boc (λ name is. is) refl

-- a command is wanted
wants_one : (rows : List Row) → check_fault (built command_line).top rows false ≡ [] → ⊥
wants_one rows none = go (not (list_any (λ r. explicit_source r.source) rows)) none
  where
    go : (x : Bool) → (if x then kind.DisplayHelpOnMissingArgumentOrSubcommand ∷ [] else kind.MissingSubcommand ∷ []) ≡ [] → ⊥
    go true clear = cc
    go false clear = cc

-- the shape of what was found, where help is no answer and a command is wanted
command_found : (stop : Text × List Text) (rows : List Row) (shape : Option Shape)
    → IfSome shape (λ s. (answers_to stop.0 (label_of s) ≡ true) × Leads s) → bytes_eq stop.0 (codes "help") ≡ false
    → option_map_or (λ s. level_fault s [] nothing_held stop.1 false []) shape [] ≡ []
    → check_fault (built command_line).top rows (is_some (option_map (λ s. rows_at s stop.1) shape)) ≡ []
    → (found : Text × List Row) × (option_map (λ s. rows_at s stop.1) shape ≡ Some found) × IsCommand found
command_found stop rows None leads other below checks = absurd (wants_one rows checks)
command_found stop rows (Some s) leads other below checks = (rows_at s stop.1, refl, leads.1 stop.0 stop.1 leads.0 other below)

stop_found : (stop : Option (Text × List Text)) (rows : List Row) → IsOther stop → entered_fault (built command_line) stop ≡ []
    → check_fault (built command_line).top rows (is_some (entered (built command_line) stop)) ≡ []
    → (found : Text × List Row) × (entered (built command_line) stop ≡ Some found) × IsCommand found
stop_found None rows other below checks = absurd (wants_one rows checks)
stop_found (Some stop) rows other below checks =
    let subs : List Shape = (built command_line).subs in
    command_found stop rows (find (λ s. answers_to stop.0 (label_of s)) subs) (lead_found stop.0 subs all_lead) other below checks

-- the parser has nothing against the words: they name a command
pub named : (words : List Text) → AreTaken words → (found : Text × List Row) × (subcommand_of command_line words ≡ Some found) × IsCommand found
named words none =
    let app : App = built command_line in
    let rest : List Text = argument_words command_line words in
    let end = walk app.top.rules (names_of app) nothing_held rest in
    let walks = neither (walk_fault app.top (names_of app) (walk_from nothing_held) rest) _ none in
    let below = neither (entered_fault app end.stopped) _ walks.1 in
    let settles = neither (settle_fault app.top.rules app.top.args_override_self end.held) _ below.1 in
    let defaults = neither (defaults_fault (settled app.top.rules end.held).rows app.top.rules) _ settles.1 in
    stop_found end.stopped (finished app.top.rules end.held)
    (walk_other app.top refl (names_of app) rest (walk_from nothing_held) walks.0 tt) below.0 defaults.1
