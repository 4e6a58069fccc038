-- The lines below that of a fault.
use Rattle.std.specs.Prelude.{◌≡◌, ℕ, ◌<◌, ◌≤◌, ◌⊎◌, List, [], ◌∷◌, ◌++◌, length, All, Option, Some, None}
use Rattle.boc_said.specs.declared.said.TheConstants.{MOST_LINE}

-- a byte that can be printed
abbrev pub IsPrintable : ℕ → Type 0
IsPrintable b = (32 ≤ b) × (b < 127)

-- a line has so many bytes at most, and all of them can be printed
pub record IsShort (most : ℕ) (line : List ℕ) : Type 0 where
  pub printable : All IsPrintable line
  pub few : length line ≤ most

-- lines, each with its line feed
abbrev pub lines_text : List (List ℕ) → List ℕ
lines_text [] = []
lines_text (line ∷ lines) = line ++ (10 ∷ lines_text lines)

-- a text is lines of at most 160 bytes, all of which can be printed, each with its line feed
pub record AreLines (text : List ℕ) : Type 0 where
  pub lines : List (List ℕ)
  pub short : All (IsShort MOST_LINE) lines
  pub is : text ≡ lines_text lines

-- a text is such lines behind a name
pub record IsHeaded (name text : List ℕ) : Type 0 where
  pub rest : List ℕ
  pub lines : AreLines rest
  pub is : text ≡ name ++ rest

-- a text is such lines, which may stand behind the name of a file, if there is one
abbrev pub AreLinesOf : Option (List ℕ) → List ℕ → Type 0
AreLinesOf None text = AreLines text
AreLinesOf (Some name) text = AreLines text ⊎ IsHeaded name text
