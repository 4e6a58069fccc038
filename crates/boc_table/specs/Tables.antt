-- Texts in columns.
use Rattle.std.specs.Prelude.{ℕ, ◌-◌, ◌==◌, max, if◌then◌else◌, List, [], ◌∷◌, ◌++◌, length, map, flat_map, replicate, slice_index_or, codes}
use Rattle.std.specs.List.{list_all, range_with_len}
use Rattle.boc_table.specs.declared.side.Side.{Side}
use Rattle.boc_table.specs.declared.side.Side.TheVariants.{Left, Right}

-- the sides of the columns, and the lines, each with a text for each column
pub record Grid : Type 0 where
  pub sides : List Side
  pub lines : List (List (List ℕ))

-- so many blanks
abbrev pub blanks : ℕ → List ℕ
blanks n = replicate n 32

-- how wide a column is: as wide as the widest of its texts
abbrev pub width_of : ℕ → List (List (List ℕ)) → ℕ
width_of column [] = 0
width_of column (line ∷ lines) = max (length (slice_index_or line column [])) (width_of column lines)

-- how wide each of so many columns is
abbrev pub widths_of : ℕ → List (List (List ℕ)) → List ℕ
widths_of columns lines = map (λ column. width_of column lines) (range_with_len 0 columns)

-- a text in its column: blanks behind it on the left side, and in front of it on the right side, up to the column's width
abbrev pub padded : Side → ℕ → List ℕ → List ℕ
padded Left width text = text ++ blanks (width - length text)
padded Right width text = blanks (width - length text) ++ text

-- the texts of a line, each in its column
abbrev pub padded_texts : List Side → List ℕ → List (List ℕ) → List (List ℕ)
padded_texts [] widths texts = []
padded_texts (side ∷ sides) [] texts = []
padded_texts (side ∷ sides) (width ∷ widths) [] = []
padded_texts (side ∷ sides) (width ∷ widths) (text ∷ texts) = padded side width text ∷ padded_texts sides widths texts

-- texts with two blanks between them
abbrev pub spaced : List (List ℕ) → List ℕ
spaced [] = []
spaced (text ∷ texts) = text ++ flat_map (λ next. blanks 2 ++ next) texts

-- a text without the blanks at its end
abbrev pub without_blanks_behind : List ℕ → List ℕ
without_blanks_behind [] = []
without_blanks_behind (byte ∷ bytes) = if list_all (λ b. b == 32) (byte ∷ bytes) then [] else byte ∷ without_blanks_behind bytes

-- the line of these texts: padded, with two blanks between them, and no blanks at its end
abbrev pub line_text : List Side → List ℕ → List (List ℕ) → List ℕ
line_text sides widths texts = without_blanks_behind (spaced (padded_texts sides widths texts)) ++ codes "\n"

-- the lines one after the other
abbrev pub table_text : List Side → List (List (List ℕ)) → List ℕ
table_text sides lines = flat_map (line_text sides (widths_of (length sides) lines)) lines
