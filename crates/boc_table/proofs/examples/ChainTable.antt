-- The definition of a table's text tried on a few lines.
use Rattle.std.proofs.Common.{◌≡◌, ℕ, List, [], ◌∷◌, refl, codes}
use Rattle.boc_table.specs.declared.side.Side.{Side}
use Rattle.boc_table.specs.declared.side.Side.TheVariants.{Left, Right}
use Rattle.boc_table.specs.Tables.{table_text, width_of}

abbrev sides : List Side
sides = Right ∷ Right ∷ Left ∷ []

abbrev lines : List (List (List ℕ))
lines = (codes "tick" ∷ codes "row" ∷ codes "then" ∷ []) ∷ (codes "0" ∷ codes "12" ∷ codes "ends" ∷ []) ∷ (codes "13" ∷ codes "1" ∷ [] ∷ []) ∷ []

pub width_of_rows : width_of 1 lines ≡ 3
width_of_rows = refl

-- numbers end below one another, and a line ends with its last text
pub text_of_chain : table_text sides lines ≡ codes "tick  row  then\n   0   12  ends\n  13    1\n"
text_of_chain = refl

-- without columns a line is empty
pub text_without_columns : table_text [] ([] ∷ [] ∷ []) ≡ codes "\n\n"
text_without_columns = refl
