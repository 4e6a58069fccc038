-- What is known by name, while pairs are made.
use Rattle.std.specs.Prelude.{◌≡◌, ◌∷◌, ◌++◌, [], ℕ, List, Option, Some, None, cond, map}
use Rattle.std.specs.Option.{is_some, option_or}
use Rattle.std.specs.BTreeMap as tree
use Rattle.std.specs.BTreeMap.{BTreeMap}
use Rattle.std.specs.Cmp.Lexicographic.{slice_cmp}
use Rattle.std.specs.Ordering.{nat_cmp}
use Rattle.std.specs.Str.{bytes_eq}
use denote.Ref.{Bor}
use Rattle.boc_names.specs.Names.{Text, text_at}
use Rattle.boc_compare.specs.declared.totals.Totals.{Totals}
use Rattle.boc_compare.specs.declared.pairs.Pair.{Pair}
use Rattle.boc_compare.specs.Pairing.{first_of}

-- the totals that are known by a name
abbrev pub known : BTreeMap (Bor (List ℕ)) Totals → Text → Option Totals
known named name = tree.get_by (λ key. slice_cmp nat_cmp name key.now) named

-- of each name the first of these is known
abbrev pub KnowsFirst : List Text → List Totals → BTreeMap (Bor (List ℕ)) Totals → Type 0
KnowsFirst names list named = (name : Text) → known named name ≡ first_of names list name

-- these totals are known by the name, unless others were known by it already
abbrev pub PutsFirst : BTreeMap (Bor (List ℕ)) Totals → Text → Totals → BTreeMap (Bor (List ℕ)) Totals → Type 0
PutsFirst old name own new = (other : Text) → known new other ≡ option_or (known old other) (cond (bytes_eq name other) (Some own) None)

-- each of those before with what is known by its name
abbrev pub known_after : List Text → List Totals → BTreeMap (Bor (List ℕ)) Totals → List Pair
known_after names before named = map (λ own. record { before = Some own; after = known named (text_at names own.key) }) before

-- one after alone, unless others before have its name
abbrev pub alone : Totals → Option Totals → List Pair
alone own other = cond (is_some other) [] (record { before = None; after = Some own } ∷ [])

-- each of those after by whose name nothing is known
abbrev pub unknown_before : List Text → List Totals → BTreeMap (Bor (List ℕ)) Totals → List Pair
unknown_before names [] named = []
unknown_before names (own ∷ after) named = alone own (known named (text_at names own.key)) ++ unknown_before names after named
