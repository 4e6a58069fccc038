-- What the parser is told, step by step.
use Rattle.std.proofs.Common.{◌≡◌, ◌∙◌, ◌||◌, ◌+◌, ◌<◌, ◌≤◌, ◌++◌, ℕ, List, [], ◌∷◌, map, take, take_all, fold, length, get_or, ap, ap₂, subst, sym, false}
use Rattle.std.proofs.lemmas.List.{map-append, take_more}
use Rattle.std.proofs.lemmas.List.Sums.{fold_push}
use Rattle.boc_words.specs.declared.arguments.Argument.{Argument as Listed}
use Rattle.boc_words.specs.declared.commands.Kind.{Kind}
use Rattle.boc_words.specs.Commands.{app_of_command, rule_at, shape_of_command, signature_of}
use Rattle.boc_words.specs.Tables.{argument_of}
use Rattle.boc_words.specs.Words.{Told, without_commands}
use Rattle.clap.specs.Simple.{app_of_fields}
use Rattle.clap.specs.Words.{AddsArg, AddsSubcommand, App, Rule, Text, app_of, rule_of, with_rule, with_subcommand}
use Rattle.clap.specs.declared.builder.arg.Arg.{Arg}
use Rattle.clap.specs.declared.builder.command.Command.{Command}
use Rattle.clap.specs.declared.builder.command.Command.TheOpen.{Command-F}
use Rattle.clap.specs.declared.builder.command.Command.TheViews.{out-Command}

-- other fields, of which the parse reads what this says
pub told_fields : (old new : Command) (app : App) (fields : Command-F Command) → out-Command new ≡ fields → app_of_fields fields ≡ app
    → fields.has_globals ≡ false → Told new app
told_fields old new app fields is same local = record {
  app_is = ap app_of_fields is ∙ same;
  local = ap (λ (f : Command-F Command). f.has_globals) is ∙ local;
}

-- ---- the arguments of a command

-- one more argument
told_arg : (old new : Command) (arg : Arg) (app : App) (rule : Rule) → AddsArg old arg new → arg.global ≡ false → rule_of arg ≡ rule
    → Told old app → Told new (with_rule app rule)
told_arg old new arg app rule added local is told = record {
  app_is = added.shape local ∙ ap₂ with_rule told.app_is is;
  local = added.globals ∙ ap₂ ◌||◌ told.local local;
}

-- the command with the first of the arguments that are listed
abbrev pub app_up_to : Text → List Listed → ℕ → App
app_up_to name listed i = app_of_command (name, map argument_of (take i listed))

rules_more : (listed : List Listed) (i : ℕ) (d : Listed) → i < length listed
    → map rule_at (map argument_of (take (i + 1) listed))
    ≡ map rule_at (map argument_of (take i listed)) ++ (rule_at (argument_of (get_or listed i d)) ∷ [])
rules_more listed i d below =
    ap (λ (l : List Listed). map rule_at (map argument_of l)) (take_more listed i d below)
    ∙ ap (map rule_at) (map-append argument_of (take i listed) (get_or listed i d ∷ []))
    ∙ map-append rule_at (map argument_of (take i listed)) (argument_of (get_or listed i d) ∷ [])

-- one more of them
pub told_next : (old new : Command) (arg : Arg) (name : Text) (listed : List Listed) (i : ℕ) (d : Listed) → i < length listed
    → AddsArg old arg new → arg.global ≡ false → rule_of arg ≡ rule_at (argument_of (get_or listed i d)) → Told old (app_up_to name listed i)
    → Told new (app_up_to name listed (i + 1))
told_next old new arg name listed i d below added local is told =
    let with_rules : List Rule → App = λ rules. record { top = record (shape_of_command (name, [])) { rules = rules }; subs = [] } in
    subst (λ (rules : List Rule). Told new (with_rules rules)) (sym (rules_more listed i d below))
    (told_arg old new arg (app_up_to name listed i) (rule_at (argument_of (get_or listed i d))) added local is told)

-- all of them
pub told_every : (command : Command) (name : Text) (listed : List Listed) (i : ℕ) → length listed ≤ i → Told command (app_up_to name listed i)
    → Told command (app_of_command (name, map argument_of listed))
told_every command name listed i end told =
    subst (λ (l : List Listed). Told command (app_of_command (name, map argument_of l))) (take_all i listed end) told

-- ---- the commands

-- one more subcommand
told_subcommand : (old sub new : Command) (app below : App) → AddsSubcommand old sub new → Told old app → Told sub below
    → Told new (with_subcommand app below.top)
told_subcommand old sub new app below added told told_below = record {
  app_is = added.shape told_below.local ∙ ap₂ with_subcommand told.app_is (ap (λ (a : App). a.top) told_below.app_is);
  local = added.globals ∙ ap₂ ◌||◌ told.local told_below.local;
}

-- the program with the first of these commands
abbrev pub program_up_to : List Kind → ℕ → App
program_up_to kinds i = fold with_subcommand without_commands (map shape_of_command (map signature_of (take i kinds)))

shapes_more : (kinds : List Kind) (i : ℕ) (d : Kind) → i < length kinds
    → map shape_of_command (map signature_of (take (i + 1) kinds))
    ≡ map shape_of_command (map signature_of (take i kinds)) ++ (shape_of_command (signature_of (get_or kinds i d)) ∷ [])
shapes_more kinds i d below =
    ap (λ (l : List Kind). map shape_of_command (map signature_of l)) (take_more kinds i d below)
    ∙ ap (map shape_of_command) (map-append signature_of (take i kinds) (get_or kinds i d ∷ []))
    ∙ map-append shape_of_command (map signature_of (take i kinds)) (signature_of (get_or kinds i d) ∷ [])

-- one more of them
pub told_next_command : (old sub new : Command) (kinds : List Kind) (i : ℕ) (d : Kind) → i < length kinds → AddsSubcommand old sub new
    → Told sub (app_of_command (signature_of (get_or kinds i d))) → Told old (program_up_to kinds i)
    → Told new (program_up_to kinds (i + 1))
told_next_command old sub new kinds i d below added told_sub told =
    subst (Told new)
    (sym (ap (fold with_subcommand without_commands) (shapes_more kinds i d below)
    ∙ fold_push with_subcommand without_commands (map shape_of_command (map signature_of (take i kinds)))
    (shape_of_command (signature_of (get_or kinds i d)))))
    (told_subcommand old sub new (program_up_to kinds i) (app_of_command (signature_of (get_or kinds i d))) added told told_sub)

-- all of them
pub told_every_command : (parser : Command) (kinds : List Kind) (i : ℕ) → length kinds ≤ i → Told parser (program_up_to kinds i)
    → app_of parser ≡ fold with_subcommand without_commands (map shape_of_command (map signature_of kinds))
told_every_command parser kinds i end told =
    told.app_is
    ∙ ap (λ (l : List Kind). fold with_subcommand without_commands (map shape_of_command (map signature_of l))) (take_all i kinds end)
