-- The tokens of a program text, apart from where they stand.
use Rattle.std.specs.Prelude.{◌≡◌, ℕ, ◌+◌, ◌-◌, ◌*◌, ◌^◌, List, [], ◌∷◌, length, Bool, true, false, ◌&&◌, ◌||◌, ◌==◌, nat_lt, nat_le, if◌then◌else◌, Option}
use Rattle.std.specs.Prelude.{Some, None, fold, find, codes}
use Rattle.std.specs.Str.{byte, bytes_eq}
use Rattle.std.specs.List.{list_all}
use Rattle.std.specs.Option.{option_map, option_map_or}
use Rattle.std.specs.Char.{is_ascii_digit, is_ascii_alphanumeric}
use Rattle.boc_reader.specs.declared.terminal.Keyword.{Keyword}
use Rattle.boc_reader.specs.declared.terminal.Keyword.TheVariants as keywords
use Rattle.boc_reader.specs.declared.terminal.Sign.{Sign}
use Rattle.boc_reader.specs.declared.terminal.Sign.TheVariants as signs

-- a token of a program text
pub data Token : Type 0 where
  name : List ℕ → Token
  number : ℕ → Token
  keyword : Keyword → Token
  sign : Sign → Token

-- the bytes of names, keywords and numbers
abbrev pub is_name_byte : ℕ → Bool
is_name_byte b = is_ascii_alphanumeric b || b == byte "_"

-- the bytes that separate tokens: space, tab, carriage return and line feed
abbrev pub is_blank : ℕ → Bool
is_blank b = b == byte " " || b == byte "\t" || b == byte "\r" || b == byte "\n"

-- The text with blanks instead of its comments, whose bytes from 128 on stay. The test says whether it begins inside of one.
abbrev pub without_comments : Bool → List ℕ → List ℕ
without_comments inside [] = []
without_comments false (b ∷ bs) = if b == byte "#" then byte " " ∷ without_comments true bs else b ∷ without_comments false bs
without_comments true (b ∷ bs) = if b == byte "\n" then b ∷ without_comments false bs else (if nat_lt b 128 then byte " " else b) ∷ without_comments true bs

-- what a text is cut into
pub data Piece : Type 0 where
  run : List ℕ → Piece
  pair : ℕ → Piece
  single : ℕ → Piece

-- a byte before what has been cut: a run is as long as can be
abbrev pub join : ℕ → List Piece → List Piece
join b (run bs ∷ ps) = run (b ∷ bs) ∷ ps
join b ps = run (b ∷ []) ∷ ps

-- a byte before what has been cut: it joins a run, or stands by itself
abbrev pub in_front : ℕ → List Piece → List Piece
in_front b ps = if is_name_byte b then join b ps else single b ∷ ps

-- the signs that an equals sign may follow
abbrev pub begins_pair : ℕ → Bool
begins_pair b = b == byte "=" || b == byte "!" || b == byte "<" || b == byte ">"

-- The longest runs of name bytes, the signs of two bytes, and all other bytes by themselves.
unfoldable pub cut : List ℕ → List Piece
cut [] = []
cut (b ∷ []) = in_front b []
cut (b ∷ c ∷ bs) = if begins_pair b && c == byte "=" then pair b ∷ cut bs else in_front b (cut (c ∷ bs))

-- how each keyword is spelled
abbrev pub spelled : Keyword → List ℕ
spelled keywords.Cown = codes "cown"
spelled keywords.Def = codes "def"
spelled keywords.Main = codes "main"
spelled keywords.Let = codes "let"
spelled keywords.Work = codes "work"
spelled keywords.If = codes "if"
spelled keywords.Else = codes "else"
spelled keywords.Repeat = codes "repeat"
spelled keywords.When = codes "when"

-- the keyword that these bytes spell
abbrev pub keyword_of : List ℕ → Option Keyword
keyword_of bs = find (λ k. bytes_eq bs (spelled k)) (keywords.Cown ∷ keywords.Def ∷ keywords.Main ∷ keywords.Let ∷ keywords.Work ∷ keywords.If ∷ keywords.Else
    ∷ keywords.Repeat ∷ keywords.When ∷ [])

-- the value of digits
abbrev pub value_of : List ℕ → ℕ
value_of ds = fold (λ v d. 10 * v + (d - byte "0")) 0 ds

-- digits, the first of which is no 0 that others follow
abbrev pub is_numeral : List ℕ → Bool
is_numeral [] = false
is_numeral (d ∷ ds) = list_all is_ascii_digit (d ∷ ds) && (nat_lt (byte "0") d || length ds == 0)

-- the first byte is a digit
abbrev pub begins_with_digit : List ℕ → Bool
begins_with_digit [] = false
begins_with_digit (d ∷ ds) = is_ascii_digit d

-- what a run of name bytes is
unfoldable pub token_of_run : List ℕ → Option Token
token_of_run bs =
    if begins_with_digit bs then (if is_numeral bs && nat_lt (value_of bs) (2 ^ 63) then Some (number (value_of bs)) else None)
    else option_map_or (λ k. Some (keyword k)) (keyword_of bs) (if nat_le (length bs) 32 then Some (name bs) else None)

-- how each sign is spelled
abbrev pub sign_spelled : Sign → List ℕ
sign_spelled signs.Equal = codes "=="
sign_spelled signs.NotEqual = codes "!="
sign_spelled signs.AtMost = codes "<="
sign_spelled signs.AtLeast = codes ">="
sign_spelled signs.Assign = codes "="
sign_spelled signs.Less = codes "<"
sign_spelled signs.Greater = codes ">"
sign_spelled signs.Plus = codes "+"
sign_spelled signs.Minus = codes "-"
sign_spelled signs.Star = codes "*"
sign_spelled signs.Slash = codes "/"
sign_spelled signs.Percent = codes "%"
sign_spelled signs.Open = codes "("
sign_spelled signs.Close = codes ")"
sign_spelled signs.OpenBlock = codes "{"
sign_spelled signs.CloseBlock = codes "}"
sign_spelled signs.OpenIndex = codes "["
sign_spelled signs.CloseIndex = codes "]"
sign_spelled signs.Semicolon = codes ";"
sign_spelled signs.Comma = codes ","

-- the sign that these bytes spell
abbrev pub sign_of : List ℕ → Option Sign
sign_of bs =
    find (λ s. bytes_eq bs (sign_spelled s))
    (signs.Equal ∷ signs.NotEqual ∷ signs.AtMost ∷ signs.AtLeast ∷ signs.Assign ∷ signs.Less ∷ signs.Greater ∷ signs.Plus ∷ signs.Minus ∷ signs.Star
    ∷ signs.Slash ∷ signs.Percent ∷ signs.Open ∷ signs.Close ∷ signs.OpenBlock ∷ signs.CloseBlock ∷ signs.OpenIndex ∷ signs.CloseIndex ∷ signs.Semicolon
    ∷ signs.Comma ∷ [])

-- a sign that an equals sign ends
abbrev pub pair_sign : ℕ → Option Sign
pair_sign b = sign_of (b ∷ codes "=")

-- a sign of one byte
abbrev pub single_sign : ℕ → Option Sign
single_sign b = sign_of (b ∷ [])

-- a token before others, if it and they are tokens
abbrev pub put : Option Token → Option (List Token) → Option (List Token)
put None ws = None
put (Some w) None = None
put (Some w) (Some ws) = Some (w ∷ ws)

-- the tokens of pieces, where each is a token or a blank
abbrev pub tokens_of_pieces : List Piece → Option (List Token)
tokens_of_pieces [] = Some []
tokens_of_pieces (run bs ∷ ps) = put (token_of_run bs) (tokens_of_pieces ps)
tokens_of_pieces (pair b ∷ ps) = put (option_map sign (pair_sign b)) (tokens_of_pieces ps)
tokens_of_pieces (single b ∷ ps) = if is_blank b then tokens_of_pieces ps else put (option_map sign (single_sign b)) (tokens_of_pieces ps)

-- the tokens of a text that has any
unfoldable pub tokens_of_text : List ℕ → Option (List Token)
tokens_of_text text = tokens_of_pieces (cut (without_comments false text))

-- the byte and the first of those after it are no sign of two bytes
abbrev pub IsApart : ℕ → List ℕ → Type 0
IsApart b [] = Unit {0}
IsApart b (c ∷ bs) = (begins_pair b && c == byte "=") ≡ false
