-- All that is told of two runs.
use Rattle.std.specs.Prelude.{◌≡◌, ◌++◌, ◌∷◌, [], ◌&&◌, List, Bool, true, false, not, codes}
use Rattle.boc_table.specs.Tables.{table_text}
use Rattle.boc_names.specs.Names.{Text, texts_of}
use Rattle.boc_compare.specs.declared.pairs.Pair.{Pair}
use Rattle.boc_compare.specs.declared.totals.Totals.{Totals}
use Rattle.boc_compare.specs.Pairing.{AreChanges}
use Rattle.boc_compare_report.specs.declared.told.Compared.{Compared}
use Rattle.boc_compare_report.specs.CompareTexts.{chains_text, number_lines, numbers_sides, verdict_text}
use Rattle.boc_compare_report.specs.PairTexts.{HeadWords, cown_words, def_words, pair_sides, pairs_lines}

-- a text is put behind another
abbrev pub Puts : (Text → Type 0) → Text → Text → Type 0
Puts Is before after = (part : Text) × Is part × (after ≡ before ++ part)

-- the table of what is told by name, behind an empty line
pub record HasPairs (heads : HeadWords) (before : List Totals) (before_names : List Text) (after : List Totals) (after_names : List Text) (part : Text)
    : Type 0 where
  pub pairs : List Pair
  pub are : AreChanges before before_names after after_names pairs
  pub is : part ≡ codes "\n" ++ table_text pair_sides (pairs_lines heads before_names after_names pairs)

-- the chains and the defs
pub record IsDefsPart (own : Compared) (part : Text) : Type 0 where
  pub table : Text
  pub has : HasPairs def_words own.before.now.defs.items (texts_of own.before_names.now.def_names.items) own.after.now.defs.items
      (texts_of own.after_names.now.def_names.items) table
  pub is : part ≡ codes "\n" ++ chains_text own.before_names.now own.before.now.by_def.items own.after_names.now own.after.now.by_def.items ++ table

-- the families of cowns
abbrev pub HasFamilies : Compared → Text → Type 0
HasFamilies own part = HasPairs cown_words own.before.now.families.items (texts_of own.before_names.now.family_names.items) own.after.now.families.items
    (texts_of own.after_names.now.family_names.items) part

-- the same; nothing where neither has any
abbrev pub IsPartWhere : List Totals → List Totals → (Text → Type 0) → Text → Type 0
IsPartWhere [] [] Is part = part ≡ []
IsPartWhere [] (b ∷ after) Is part = Is part
IsPartWhere (a ∷ before) after Is part = Is part

abbrev pub IsCownsPart : Compared → Text → Type 0
IsCownsPart own part = IsPartWhere own.before.now.families.items own.after.now.families.items (HasFamilies own) part

-- the chains and the defs where both have names, and else nothing
abbrev pub IsNamedPart : Bool → (Text → Type 0) → Text → Type 0
IsNamedPart true Is part = Is part
IsNamedPart false Is part = part ≡ []

-- typical ticks are told of where both have names, and the rows do not have them already
abbrev pub tells_typical : Compared → Bool
tells_typical own = own.named && not own.typical

-- all that is told
pub record IsCompareText (own : Compared) (text : Text) : Type 0 where
  pub defs : Text
  pub defs_are : IsNamedPart own.named (IsDefsPart own) defs
  pub cowns : Text
  pub cowns_are : IsCownsPart own cowns
  pub is : text ≡ table_text numbers_sides (number_lines own.workers (tells_typical own) own.before.now own.after.now) ++ defs ++ cowns
      ++ verdict_text own.workers (tells_typical own) own.before.now own.after.now
