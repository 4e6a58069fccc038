-- What goes with what by name.
use Rattle.std.specs.Prelude.{◌≡◌, ℕ, ◌<◌, ◌⊎◌, ◌==◌, ◌&&◌, Bool, cond, max, List, [], ◌∷◌, ◌++◌, map, Option, Some, None, slice_get}
use Rattle.std.specs.List.{filter}
use Rattle.std.specs.List.Sorted.{IsPermutation}
use Rattle.std.specs.Option.{is_some, option_map_or}
use Rattle.std.specs.Str.{bytes_eq}
use Rattle.boc_names.specs.Names.{Text, text_at}
use Rattle.boc_compare.specs.declared.totals.Totals.{Totals}
use Rattle.boc_compare.specs.declared.pairs.Pair.{Pair}

-- the first of these of this name; None where there is none
abbrev pub first_of : List Text → List Totals → Text → Option Totals
first_of names [] name = None
first_of names (own ∷ list) name = cond (bytes_eq (text_at names own.key) name) (Some own) (first_of names list name)

-- no two of these have the same name
abbrev pub AreNamedApart : List Text → List Totals → Type 0
AreNamedApart names [] = Unit {0}
AreNamedApart names (own ∷ list) = (first_of names list (text_at names own.key) ≡ None) × AreNamedApart names list

-- each of those before with the first of its name after
abbrev pub with_after : List Text → List Totals → List Text → List Totals → List Pair
with_after before_names before after_names after =
    map (λ own. record { before = Some own; after = first_of after_names after (text_at before_names own.key) }) before

-- each of those after whose name none before has
abbrev pub only_after : List Text → List Totals → List Text → List Totals → List Pair
only_after before_names before after_names [] = []
only_after before_names before after_names (own ∷ after) =
    cond (is_some (first_of before_names before (text_at after_names own.key)))
    (only_after before_names before after_names after)
    (record { before = None; after = Some own } ∷ only_after before_names before after_names after)

-- what is told of each name of either side, as they come: those before in their order, and then those that are only after
abbrev pub paired : List Totals → List Text → List Totals → List Text → List Pair
paired before before_names after after_names =
    with_after before_names before after_names after ++ only_after before_names before after_names after

-- the greater ticks on the chain of either side, and the greater ticks
abbrev pub chain_of : Pair → ℕ
chain_of pair = max (option_map_or (λ own. own.chain) pair.before 0) (option_map_or (λ own. own.chain) pair.after 0)

abbrev pub ticks_of : Pair → ℕ
ticks_of pair = max (option_map_or (λ own. own.ticks) pair.before 0) (option_map_or (λ own. own.ticks) pair.after 0)

-- the one weighs more on the chain, or as much and takes more ticks, or as many
abbrev pub IsNoLighter : Pair → Pair → Type 0
IsNoLighter a b = (chain_of b < chain_of a) ⊎ ((chain_of a ≡ chain_of b) × ((ticks_of b < ticks_of a) ⊎ (ticks_of a ≡ ticks_of b)))

-- both weigh as much on the chain, and take as many ticks
abbrev pub weighs_as_much : Pair → Pair → Bool
weighs_as_much a b = (chain_of a == chain_of b) && (ticks_of a == ticks_of b)

-- what is told of each name of either side: those that weigh most first, and those that weigh as much as they come
pub record AreChanges (before : List Totals) (before_names : List Text) (after : List Totals) (after_names : List Text) (pairs : List Pair) : Type 0 where
  pub all : IsPermutation (paired before before_names after after_names) pairs
  pub sorted : (i j : ℕ) (a b : Pair) → i < j → slice_get pairs i ≡ Some a → slice_get pairs j ≡ Some b → IsNoLighter a b
  pub as_they_come : (pair : Pair) → filter (weighs_as_much pair) pairs ≡ filter (weighs_as_much pair) (paired before before_names after after_names)
