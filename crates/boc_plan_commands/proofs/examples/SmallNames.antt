-- What asked cowns and edits mean, tried on a few names.
use Rattle.std.proofs.Common.{◌≡◌, [], ◌∷◌, codes, length}
use Rattle.std.specs.Prelude.{String, string_bytes}
use Rattle.std.specs.Global.{Global}
use Rattle.boc_plans.specs.Fractions.{Fraction}
use Rattle.boc_names.specs.declared.names.Names.{Names}
use Rattle.boc_names.specs.Names.{texts_of}
use Rattle.boc_words.specs.declared.asked.AskedCown.TheVariants as cowns
use Rattle.boc_words.specs.declared.asked.AskedEdit.TheVariants as edits
use Rattle.boc_plan_commands.specs.Asked.{costs, cowns_of, edits_of}

-- a log, and the two cowns of an array
pub record AreThree (names : Names) : Type 0 where
  pub many : length names.cowns.items ≡ 3
  pub cowns : texts_of names.cowns.items ≡ codes "log" ∷ codes "seat[0]" ∷ codes "seat[1]" ∷ []
  pub families : names.families.items ≡ 0 ∷ 1 ∷ 1 ∷ []
  pub family_names : texts_of names.family_names.items ≡ codes "log" ∷ codes "seat[*]" ∷ []

-- an array is meant by its name
pub array_is_meant : (names : Names) (name : String Global) → AreThree names → string_bytes name ≡ codes "seat" → cowns_of names (cowns.Name name) ≡ 1 ∷ 2 ∷ []
array_is_meant names name are is = rw (are.many, is, are.cowns, are.families, are.family_names)

-- and by the name that it has in lists
pub star_is_meant : (names : Names) (name : String Global) → AreThree names → string_bytes name ≡ codes "seat[*]"
    → cowns_of names (cowns.Name name) ≡ 1 ∷ 2 ∷ []
star_is_meant names name are is = rw (are.many, is, are.cowns, are.families, are.family_names)

-- one of its cowns is meant by its own
pub member_is_meant : (names : Names) (name : String Global) → AreThree names → string_bytes name ≡ codes "seat[1]" → cowns_of names (cowns.Name name) ≡ 2 ∷ []
member_is_meant names name are is = rw (are.many, is, are.cowns, are.families, are.family_names)

-- a part of a name means none
pub part_means_none : (names : Names) (name : String Global) → AreThree names → string_bytes name ≡ codes "sea" → cowns_of names (cowns.Name name) ≡ []
part_means_none names name are is = rw (are.many, is, are.cowns, are.families, are.family_names)

-- a number is that of a cown, where there is one
pub number_is_meant : (names : Names) → AreThree names → cowns_of names (cowns.Number 2) ≡ 2 ∷ []
number_is_meant names are = rw are.many

pub number_means_none : (names : Names) → AreThree names → cowns_of names (cowns.Number 3) ≡ []
number_means_none names are = rw are.many

-- main, two rows of one def, and one of another
pub record AreFour (names : Names) : Type 0 where
  pub many : length names.defs.items ≡ 4
  pub defs : names.defs.items ≡ 0 ∷ 1 ∷ 1 ∷ 2 ∷ []
  pub def_names : texts_of names.def_names.items ≡ codes "main" ∷ codes "ask" ∷ codes "tell" ∷ []

-- a def means each of its rows
pub rows_are_meant : (names : Names) (name : String Global) (part : Fraction) → AreFour names → string_bytes name ≡ codes "ask"
    → edits_of names (edits.Def name part) ≡ costs part 1 ∷ costs part 2 ∷ []
rows_are_meant names name part are is = rw (are.many, is, are.defs, are.def_names)

-- another name means none
pub name_means_none : (names : Names) (name : String Global) (part : Fraction) → AreFour names → string_bytes name ≡ codes "Ask"
    → edits_of names (edits.Def name part) ≡ []
name_means_none names name part are is = rw (are.many, is, are.defs, are.def_names)
