-- What the parser's clauses say of a command line.
use Rattle.std.proofs.Common.{◌≡◌, ◌∙◌, ap, true, List, ℕ, Result, Ok, Err, IfOk, IfErr, subst}
use Rattle.clap.specs.Kinds.{FailsBy, HasKind}
use Rattle.clap.specs.Words.{App, HasMatchesOf, fault_of, is_simple, is_simple_and_free, subcommand_of, subcommand_rows_of}
use Rattle.clap.specs.declared.error.Error.{Error}
use Rattle.clap.specs.declared.parser.matches.ArgMatches.{ArgMatches}
use Rattle.boc_words.specs.Words.{AreTaken, command_line}
use Rattle.boc_words.proofs.examples.CommandLines.{is_exact, is_simple_too}

-- what the parser's clause on kinds says of this command line
fails_by : (app : App) (words : List (List ℕ)) (r : Result ArgMatches Error) → app ≡ command_line
    → (is_simple_and_free app ≡ true → FailsBy (fault_of app words) r) → FailsBy (fault_of command_line words) r
fails_by app words r is kinds = subst (λ (a : App). FailsBy (fault_of a words) r) is (kinds (ap is_simple_and_free is ∙ is_exact))

pub taken : (app : App) (words : List (List ℕ)) (r : Result ArgMatches Error) → app ≡ command_line
    → (is_simple_and_free app ≡ true → FailsBy (fault_of app words) r) → IfOk r (λ matches. AreTaken words)
taken app words (Ok m) is kinds = fails_by app words (Ok m) is kinds
taken app words (Err e) is kinds = tt

pub named : (app : App) (words : List (List ℕ)) (m : ArgMatches) → app ≡ command_line → HasMatchesOf app words m
    → subcommand_rows_of m ≡ subcommand_of command_line words
named app words m is has = (has (ap is_simple is ∙ is_simple_too)).1 ∙ ap (λ (a : App). subcommand_of a words) is

pub refused : (app : App) (words : List (List ℕ)) (r : Result ArgMatches Error) → app ≡ command_line
    → (is_simple_and_free app ≡ true → FailsBy (fault_of app words) r) → IfErr r (HasKind (fault_of command_line words))
refused app words (Ok m) is kinds = tt
refused app words (Err e) is kinds = fails_by app words (Err e) is kinds
