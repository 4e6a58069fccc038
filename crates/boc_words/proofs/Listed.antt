-- What is looked for in the table of commands.
use Rattle.std.proofs.Common.{◌≡◌, ◌≢◌, ◌∙◌, ◌+◌, ◌<◌, ◌≤◌, ◌++◌, ℕ, true, false, List, [], ◌∷◌, map, take, take_all, length, get_or}
use Rattle.std.proofs.Common.{ap, sym, subst}
use Rattle.std.specs.Str.{bytes_eq}
use Rattle.std.proofs.lemmas.Slice.Eq.{bytes_eq-Decides}
use Rattle.std.proofs.lemmas.List.{map-append, take_more}
use Rattle.clap.specs.Words.{Text}
use Rattle.boc_words.specs.declared.commands.Kind.{Kind}
use Rattle.boc_words.specs.Commands.{Argument, signature_of}
use Rattle.boc_words.specs.Words.{IsNoneOf}

none_of-push : (name : Text) (commands : List (Text × List Argument)) (command : Text × List Argument) → IsNoneOf name commands
    → name ≢ command.0 → IsNoneOf name (commands ++ (command ∷ []))
none_of-push name [] command none other = (other, tt)
none_of-push name (first ∷ commands) command none other = (none.0, none_of-push name commands command none.1 other)

-- the name is that of none of the first of these commands
pub record IsNoneUpTo (name : Text) (kinds : List Kind) (i : ℕ) : Type 0 where
  pub none : IsNoneOf name (map signature_of (take i kinds))

pub none_yet : (name : Text) (kinds : List Kind) → IsNoneUpTo name kinds 0
none_yet name kinds = record { none = tt }

differs : (listed name : Text) → bytes_eq listed name ≡ false → name ≢ listed
differs listed name other same =
    let equal : bytes_eq listed name ≡ true = (bytes_eq-Decides listed name).1 (sym same) in
    cc

pub none_next : (name listed : Text) (kinds : List Kind) (i : ℕ) (d : Kind) → i < length kinds → listed ≡ (signature_of (get_or kinds i d)).0
    → bytes_eq listed name ≡ false → IsNoneUpTo name kinds i → IsNoneUpTo name kinds (i + 1)
none_next name listed kinds i d below is other before =
    let kind : Kind = get_or kinds i d in
    record {
      none = subst (IsNoneOf name) (sym (ap (map signature_of) (take_more kinds i d below) ∙ map-append signature_of (take i kinds) (kind ∷ [])))
          (none_of-push name (map signature_of (take i kinds)) (signature_of kind) before.none
          (subst (λ l. name ≢ l) is (differs listed name other)));
    }

pub none_of_all : (name : Text) (kinds : List Kind) (i : ℕ) → length kinds ≤ i → IsNoneUpTo name kinds i → IsNoneOf name (map signature_of kinds)
none_of_all name kinds i end before =
    subst (λ (l : List Kind). IsNoneOf name (map signature_of l)) (take_all i kinds end) before.none

-- a name that is found is that of the command
pub named_at : (name listed : Text) (kind : Kind) → listed ≡ (signature_of kind).0 → bytes_eq listed name ≡ true → name ≡ (signature_of kind).0
named_at name listed kind is found = sym ((bytes_eq-Decides listed name).0 found) ∙ is
