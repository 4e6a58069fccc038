-- The first token of a text, and whether a program begins so.
use Rattle.std.specs.Prelude.{ℕ, Bool, true, false, List, [], ◌∷◌, ◌||◌, ◌==◌, if◌then◌else◌, length, nat_lt, codes}
use Rattle.std.specs.Str.{byte, bytes_eq}
use Rattle.std.specs.List.{take_while}
use Rattle.boc_reader.specs.Tokens.{is_blank, is_name_byte}

-- The text from its first token on, behind blanks and comments; a comment goes to the end of its line. The test says whether the text begins inside of one.
abbrev pub from_token : Bool → List ℕ → List ℕ
from_token inside [] = []
from_token true (b ∷ bs) = if b == byte "\n" then from_token false bs else from_token true bs
from_token false (b ∷ bs) = if b == byte "#" then from_token true bs else if is_blank b then from_token false bs else b ∷ bs

-- the name, keyword or number that the first token of a text is; no bytes where it is a sign, or where there is none
abbrev pub first_run : List ℕ → List ℕ
first_run text = take_while is_name_byte (from_token false text)

-- a program begins with this word
abbrev pub opens : List ℕ → Bool
opens run = bytes_eq run (codes "cown") || bytes_eq run (codes "def") || bytes_eq run (codes "main")

-- the first token of the text ends within it, or is longer than such a word
abbrev pub is_told : List ℕ → Bool
is_told text = nat_lt (length (first_run text)) (length (from_token false text)) || nat_lt 4 (length (first_run text))

-- the first token of the text is one that a program begins with
abbrev pub begins_program : List ℕ → Bool
begins_program text = opens (first_run text)
