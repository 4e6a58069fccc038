-- What would help, and what cowns cost, in a data block.
use Rattle.std.specs.Prelude.{ℕ, List, [], ◌∷◌, ◌++◌, ◌==◌, map, flat_map, cond, codes, decimal}
use Rattle.std.specs.List.{range_with_len}
use Rattle.boc_cowns.specs.declared.hot.HotCown.{HotCown}
use Rattle.boc_cowns.specs.declared.hot.HotCowns.{HotCowns}
use Rattle.boc_names.specs.declared.names.Names.{Names}
use Rattle.boc_names.specs.Names.{Text, text_at, texts_of}
use Rattle.boc_remedies.specs.declared.candidates.Candidate.{Candidate}
use Rattle.boc_remedies.specs.declared.remedy.Remedy.{Remedy}
use Rattle.boc_remedies.specs.declared.remedy.Remedy.TheVariants.{HalfCost, NoOrder, EarlySpawns}
use Rattle.boc_remedies.specs.Ends.{judged}
use Rattle.boc_advice_report.specs.AdviceTexts.{families_text}
use Rattle.boc_page.specs.Json.{key_text, string_text}

-- the kind of a remedy
abbrev pub kind_text : Remedy → Text
kind_text (HalfCost def) = codes "half"
kind_text (NoOrder set) = codes "without"
kind_text (EarlySpawns def) = codes "early"

-- the name of the def that a remedy is for, or those of the families of cowns
abbrev pub remedy_name : Names → Remedy → Text
remedy_name names (HalfCost def) = text_at (texts_of names.def_names.items) def
remedy_name names (NoOrder set) = families_text names set
remedy_name names (EarlySpawns def) = text_at (texts_of names.def_names.items) def

-- a candidate: its kind, the name, the span and the end that it leaves
abbrev pub candidate_text : Names → Candidate → Text
candidate_text names own = codes "[" ++ string_text (kind_text own.remedy) ++ codes "," ++ string_text (remedy_name names own.remedy) ++ codes ","
    ++ decimal own.ends.span ++ codes "," ++ decimal (judged own.ends) ++ codes "]"

-- candidates after others
abbrev pub more_candidates : Names → List Candidate → Text
more_candidates names candidates = flat_map (λ c. codes "," ++ candidate_text names c) candidates

-- candidates with commas between them
abbrev pub joined_candidates : Names → List Candidate → Text
joined_candidates names [] = []
joined_candidates names (c ∷ candidates) = candidate_text names c ++ more_candidates names candidates

-- the key of the candidates, and these
unfoldable pub candidates_text : Names → List Candidate → Text
candidates_text names candidates = key_text (codes "candidates") ++ codes "[" ++ joined_candidates names candidates ++ codes "]"

-- what a cown costs: how many rows have it, how many wrote it, for how long it is held, waited for and handed on, and the span without it
abbrev pub hot_numbers : HotCown → List ℕ
hot_numbers own = own.rows ∷ own.wrote ∷ own.held ∷ own.waited ∷ own.chain ∷ own.without ∷ []

-- the numbers of the cown with this number; one that no row has costs nothing
abbrev pub cown_line : ℕ → List HotCown → ℕ → List ℕ
cown_line span [] cown = 0 ∷ 0 ∷ 0 ∷ 0 ∷ 0 ∷ span ∷ []
cown_line span (own ∷ others) cown = cond (own.cown == cown) (hot_numbers own) (cown_line span others cown)

-- the numbers of so many cowns
abbrev pub cown_lines : ℕ → HotCowns → List (List ℕ)
cown_lines count hot = map (cown_line hot.span hot.cowns.items) (range_with_len 0 count)
