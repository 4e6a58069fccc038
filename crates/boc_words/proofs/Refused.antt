-- Why the words are refused.
use Rattle.std.proofs.Common.{◌≡◌, ℕ, List, [], ◌∷◌, Option, Some, inl, inr, refl, subst}
use Rattle.clap.specs.Words.{Row, Text, subcommand_of}
use Rattle.boc_words.specs.declared.fault.WordsFault.{WordsFault}
use Rattle.boc_words.specs.declared.fault.WordsFault.TheVariants as faults
use Rattle.boc_words.specs.Commands.{Argument, commands_of_boc, number_options}
use Rattle.boc_words.specs.Words.{AreTaken, HasNoNumbers, IsMisnamed, IsNoneOf, IsRefused, IsUnknown, command_line}
use Rattle.boc_words.proofs.Named.{HasNumbers, IsCommand, IsKnown, named}
use Rattle.boc_words.proofs.Numbers.{HaveOne, some_numbers}

-- one of these commands is not none of them
one_of : (name : Text) (commands : List (Text × List Argument)) → IsKnown name commands → IsNoneOf name commands → ⊥
one_of name [] is none = is
one_of name (command ∷ more) is none = elim is [ inl here ↦ none.0 here | inr below ↦ one_of name more below none.1 ]

-- a command that was found is known
known : (found : Text × List Row) → IsKnown found.0 commands_of_boc → IsUnknown (Some found) → ⊥
known found is unknown = one_of found.0 commands_of_boc is (unknown found.0 found.1 refl)

-- and misses no number
has_numbers : (found : Text × List Row) → HasNumbers found.1 → HasNoNumbers (Some found) → ⊥
has_numbers found is misses =
    let named = misses.1 in
    let rows : found.1 ≡ named.0 = cc in
    some_numbers number_options named.0 (subst (HaveOne number_options) rows is) named.2

-- what the parser takes has no fault but what does not fit, or a misspelt edit
pub misnamed : (words : List (List ℕ)) (asked : Option (Text × List Row)) (fault : WordsFault) → AreTaken words
    → asked ≡ subcommand_of command_line words → IsMisnamed asked fault → IsRefused words fault
misnamed words asked fault taken is h = go fault (named words taken) (subst (λ (n : Option (Text × List Row)). IsMisnamed n fault) is h)
  where
    go : (f : WordsFault) → ((found : Text × List Row) × (subcommand_of command_line words ≡ Some found) × IsCommand found)
        → IsMisnamed (subcommand_of command_line words) f → IsRefused words f
    go (faults.Parser e) found m = elim m [
      | inl unknown ↦ absurd (known found.0 found.2.0 (subst IsUnknown found.1 unknown))
      | inr rest ↦ elim rest [
        | inl misses ↦ absurd (has_numbers found.0 found.2.1 (subst HasNoNumbers found.1 misses))
        | inr unfit ↦ inr (taken, unfit)
      ]
    ]
    go (faults.EditWord number) found m = (taken, m)
    go faults.Memory found m = tt
