-- JSON: numbers, strings, lists and members.
use Rattle.std.specs.Prelude.{ℕ, Bool, ◌+◌, ◌/◌, ◌%◌, ◌==◌, ◌||◌, List, [], ◌∷◌, ◌++◌, map, flat_map, cond, nat_lt, Vec, codes, decimal}
use Rattle.std.specs.Global.{Global}
use Rattle.boc_names.specs.Names.{Text}

-- ---- strings

-- the digit of a number below 16
abbrev pub hex_digit : ℕ → ℕ
hex_digit number = cond (nat_lt number 10) (48 + number) (87 + number)

-- whether a byte is written by its number: below 32, or `<`, `>` or `&`
abbrev pub is_coded : ℕ → Bool
is_coded byte = nat_lt byte 32 || byte == 60 || byte == 62 || byte == 38

-- a byte by its number
abbrev pub coded : ℕ → Text
coded byte = codes "\\u00" ++ hex_digit (byte / 16) ∷ hex_digit (byte % 16) ∷ []

-- a byte of a string: `"` and `\` after a backslash
abbrev pub escaped : ℕ → Text
escaped byte = cond (byte == 34 || byte == 92) (92 ∷ byte ∷ []) (cond (is_coded byte) (coded byte) (byte ∷ []))

-- the bytes of a string
abbrev pub escaped_text : Text → Text
escaped_text bytes = flat_map escaped bytes

-- a string
abbrev pub string_text : Text → Text
string_text bytes = codes "\"" ++ escaped_text bytes ++ codes "\""

-- ---- lists

-- numbers after others
abbrev pub more_numbers : List ℕ → Text
more_numbers numbers = flat_map (λ n. codes "," ++ decimal n) numbers

-- numbers with commas between them
abbrev pub joined_numbers : List ℕ → Text
joined_numbers [] = []
joined_numbers (n ∷ numbers) = decimal n ++ more_numbers numbers

-- a list of numbers
abbrev pub numbers_text : List ℕ → Text
numbers_text numbers = codes "[" ++ joined_numbers numbers ++ codes "]"

-- what lists contain
abbrev pub lists_of : List (Vec ℕ Global) → List (List ℕ)
lists_of lists = map (λ list. list.items) lists

-- lists after others
abbrev pub more_lists : List (List ℕ) → Text
more_lists lists = flat_map (λ list. codes "," ++ numbers_text list) lists

-- lists with commas between them
abbrev pub joined_lists : List (List ℕ) → Text
joined_lists [] = []
joined_lists (list ∷ lists) = numbers_text list ++ more_lists lists

-- a list of lists of numbers
abbrev pub lists_text : List (List ℕ) → Text
lists_text lists = codes "[" ++ joined_lists lists ++ codes "]"

-- strings after others
abbrev pub more_strings : List Text → Text
more_strings strings = flat_map (λ s. codes "," ++ string_text s) strings

-- strings with commas between them
abbrev pub joined_strings : List Text → Text
joined_strings [] = []
joined_strings (s ∷ strings) = string_text s ++ more_strings strings

-- a list of strings
abbrev pub strings_text : List Text → Text
strings_text strings = codes "[" ++ joined_strings strings ++ codes "]"

-- ---- members of an object, after others

-- a key
unfoldable pub key_text : Text → Text
key_text key = codes ",\"" ++ key ++ codes "\":"

-- a key with a number
unfoldable pub number_member : Text → ℕ → Text
number_member key n = key_text key ++ decimal n

-- a key with a string
unfoldable pub string_member : Text → Text → Text
string_member key s = key_text key ++ string_text s

-- a key with a list of numbers
unfoldable pub numbers_member : Text → List ℕ → Text
numbers_member key numbers = key_text key ++ numbers_text numbers

-- a key with a list of lists of numbers
unfoldable pub lists_member : Text → List (List ℕ) → Text
lists_member key lists = key_text key ++ lists_text lists

-- a key with a list of strings
unfoldable pub strings_member : Text → List Text → Text
strings_member key strings = key_text key ++ strings_text strings
