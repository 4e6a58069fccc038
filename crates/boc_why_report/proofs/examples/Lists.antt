-- The definitions of lists tried on a few lines.
use Rattle.std.proofs.Common.{◌≡◌, ◌++◌, List, [], ◌∷◌, codes, refl}
use Rattle.std.specs.Fmt.{digits}
use Rattle.boc_names.specs.Names.{Text}
use Rattle.boc_table.specs.Tables.{table_text}
use Rattle.boc_why_report.specs.WhyTexts.{beside, entry_texts, more_line, shares_head, shares_sides}

-- three more than are told
pub three_more : more_line 23 ≡ (codes "  3 more" ∷ [] ∷ [] ∷ []) ∷ []
unfolding digits
three_more = refl

-- as many as are told
pub no_more : more_line 20 ≡ []
no_more = refl

abbrev by_def : List (List Text)
by_def = entry_texts (codes "serve") 6 1 ∷ entry_texts (codes "main") 3 1 ∷ []

abbrev by_link : List (List Text)
by_link = entry_texts (codes "spawn by main") 3 1 ∷ []

-- two lists beside each other, of which the second is shorter
pub text_of_shares : table_text shares_sides (shares_head (codes "chain by def") (codes "chain by link") ∷ beside by_def by_link)
    ≡ codes "chain by def  ticks  rows        chain by link    ticks  links\n"
    ++ codes "  serve           6     1          spawn by main      3      1\n  main            3     1\n"
unfolding digits
text_of_shares = refl
