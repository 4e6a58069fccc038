-- The text of a file of names, and what it has first wrong where it is none.
use Rattle.std.specs.Prelude.{◌≡◌, ◌≢◌, ◌==◌, ℕ, suc, ◌+◌, ◌<◌, ◌≤◌, ◌^◌, ◌⊎◌, if◌then◌else◌, List, [], ◌∷◌, ◌++◌, length, take, map, flat_map}
use Rattle.std.specs.Prelude.{All, Vec, IsTrue, Option, Some, None, IsSome, codes, decimal, position}
use Rattle.std.specs.Option.{unwrap_or, option_map}
use Rattle.std.specs.Global.{Global}
use Rattle.std.specs.List.{AllByRecursion, list_all, ends_with}
use Rattle.std.specs.Char.{is_ascii_graphic}
use Rattle.boc_text.specs.declared.lines.TheConstants.{MOST_LINE}
use Rattle.boc_names.specs.declared.names.Names.{Names}
use Rattle.boc_names.specs.declared.fault.NamesFault.{NamesFault}
use Rattle.boc_names.specs.declared.fault.NamesFaultKind.{NamesFaultKind}
use Rattle.boc_names.specs.declared.fault.NamesFaultKind.TheVariants as kinds
use Rattle.boc_names.specs.declared.file.TheConstants.{MOST_NAMES}
use Rattle.boc_names.specs.Names.{Text, text_at, texts_of}
use Rattle.boc_names.specs.Grouping.{IsGrouping}

-- ---- lines

-- what a line is: a free one, one that names a row, with arguments or without, or one that names a cown
pub data Line : Type 0 where
  Free : Text → Line
  NamesRow : ℕ → Text → List Text → Line
  NamesCown : ℕ → Text → Line

-- a word: bytes that are printed, of which there are some, and no blank
abbrev pub IsWord : Text → Type 0
IsWord word = (0 < length word) × IsTrue (list_all is_ascii_graphic word)

-- words, each after a blank
abbrev pub spaced : List Text → Text
spaced [] = []
spaced (word ∷ words) = codes " " ++ word ++ spaced words

-- a line as it is written, without its line feed
abbrev pub spelling : Line → Text
spelling (Free text) = text
spelling (NamesRow row name args) = codes "=" ++ spaced (decimal row ∷ name ∷ args)
spelling (NamesCown cown name) = codes "@" ++ spaced (decimal cown ∷ name ∷ [])

-- a line that says nothing is empty, or begins with `#`
abbrev pub IsFree : Text → Type 0
IsFree [] = Unit {0}
IsFree (first ∷ others) = first ≡ 35

-- a line says nothing, or names things by words, and has numbers of 32 bits
abbrev pub HasForm : Line → Type 0
HasForm (Free text) = IsFree text
HasForm (NamesRow row name args) = (row < 2 ^ 32) × IsWord name × AllByRecursion IsWord args
HasForm (NamesCown cown name) = (cown < 2 ^ 32) × IsWord name

-- none of the bytes is a line feed
abbrev pub IsOneLine : Text → Type 0
IsOneLine line = All (λ b. b ≢ 10) line

-- a line with its line feed
abbrev pub fed : Text → Text
fed line = line ++ codes "\n"

-- a line that may be in a file
pub record IsLine (line : Line) : Type 0 where
  pub form : HasForm line
  pub one : IsOneLine (spelling line)
  pub short : length (spelling line) ≤ MOST_LINE

-- the text of lines
abbrev pub lines_text : List Line → Text
lines_text lines = flat_map (λ line. fed (spelling line)) lines

-- ---- what things are called

-- words after others
abbrev pub more_words : List Text → Text
more_words [] = []
more_words (word ∷ words) = codes ", " ++ word ++ more_words words

-- what a row is called: its name, and its arguments where it has some
abbrev pub row_text : Text → List Text → Text
row_text name [] = name
row_text name (arg ∷ args) = name ++ codes "(" ++ arg ++ more_words args ++ codes ")"

-- How many bytes of a name stand in front of the first `[` behind its first byte. There are some where the name ends in `]`.
abbrev pub base_len : Text → Option ℕ
base_len [] = None
base_len (first ∷ others) = if ends_with (λ a b. a == b) others (codes "]") then option_map suc (position (λ b. b == 91) others) else None

-- the name of an array's members together
abbrev pub family_at : Text → Option ℕ → Text
family_at name None = name
family_at name (Some len) = take len name ++ codes "[*]"

-- the name of the family of a cown with this name: that of an array with a star for a member of one, and else the name itself
abbrev pub family_text : Text → Text
family_text name = family_at name (base_len name)

-- a number, what the thing with this number is called, and what the group that it is in: a row's def, or a cown's family
pub record Call : Type 0 where
  pub number : ℕ
  pub text : Text
  pub group : Text

-- what lines say of rows
abbrev pub row_calls : List Line → List Call
row_calls [] = []
row_calls (NamesRow row name args ∷ lines) = record { number = row; text = row_text name args; group = name } ∷ row_calls lines
row_calls (Free text ∷ lines) = row_calls lines
row_calls (NamesCown cown name ∷ lines) = row_calls lines

-- what lines say of cowns
abbrev pub cown_calls : List Line → List Call
cown_calls [] = []
cown_calls (NamesCown cown name ∷ lines) = record { number = cown; text = name; group = family_text name } ∷ cown_calls lines
cown_calls (Free text ∷ lines) = cown_calls lines
cown_calls (NamesRow row name args ∷ lines) = cown_calls lines

-- what is said of the thing with a number
abbrev pub call_at : List Call → ℕ → Option Call
call_at [] number = None
call_at (call ∷ calls) number = if call.number == number then Some call else call_at calls number

-- each thing is there, of which there are so many
abbrev pub AreThere : ℕ → List Call → Type 0
AreThere count calls = AllByRecursion (λ call. call.number < count) calls

-- no thing is named twice
abbrev pub AreApart : List Call → Type 0
AreApart [] = Unit {0}
AreApart (call ∷ calls) = (call_at calls call.number ≡ None) × AreApart calls

-- these lines may be in a file, of which each names one of so many rows or cowns, and no two the same
pub record AreGood (rows cowns : ℕ) (lines : List Line) : Type 0 where
  pub lines_are : AllByRecursion IsLine lines
  pub rows_there : AreThere rows (row_calls lines)
  pub rows_apart : AreApart (row_calls lines)
  pub cowns_there : AreThere cowns (cown_calls lines)
  pub cowns_apart : AreApart (cown_calls lines)

-- ---- names laid over others

-- What is said of things, over what was known of them, of which the first has this number: where nothing is said, that stays.
abbrev pub laid : {A : Type 0} → (Call → A) → List Call → ℕ → List A → List A
laid says calls number [] = []
laid says calls number (known ∷ others) = unwrap_or (option_map says (call_at calls number)) known ∷ laid says calls (suc number) others

-- the name of the group of each thing, where they have these numbers
abbrev pub names_at : List Text → List ℕ → List Text
names_at names numbers = map (text_at names) numbers

-- The names are those of a base with what the lines say laid over them. Things whose groups have one name are in one group, and the groups are numbered as
-- they come first.
pub record AreLaidOver (base : Names) (lines : List Line) (names : Names) : Type 0 where
  pub rows : texts_of names.rows.items ≡ laid (λ call. call.text) (row_calls lines) 0 (texts_of base.rows.items)
  pub defs : IsGrouping (laid (λ call. call.group) (row_calls lines) 0 (names_at (texts_of base.def_names.items) base.defs.items)) names.defs.items
      (texts_of names.def_names.items)
  pub cowns : texts_of names.cowns.items ≡ laid (λ call. call.text) (cown_calls lines) 0 (texts_of base.cowns.items)
  pub families : IsGrouping (laid (λ call. call.group) (cown_calls lines) 0 (names_at (texts_of base.family_names.items) base.families.items))
      names.families.items (texts_of names.family_names.items)

-- so many things have a text each and a number of a group each, of which there are no more
pub record AreWhole (count : ℕ) (texts : List (Vec ℕ Global)) (numbers : List ℕ) : Type 0 where
  pub texts_are : length texts ≡ count
  pub numbers_are : length numbers ≡ count
  pub below : All (λ number. number < count) numbers

-- a text is that of lines that may be in a file, and not too long, and the names are those of the base with what the lines say laid over them
pub record IsNamedBy (text : Text) (base names : Names) : Type 0 where
  pub lines : List Line
  pub good : AreGood (length base.rows.items) (length base.cowns.items) lines
  pub is : text ≡ lines_text lines
  pub fits : length text ≤ MOST_NAMES
  pub laid_over : AreLaidOver base lines names

-- ---- faults

-- a text begins with this line, which is not too long, and this is after it
pub record BeginsWith (text line rest : Text) : Type 0 where
  pub is : text ≡ fed line ++ rest
  pub one : IsOneLine line
  pub short : length line ≤ MOST_LINE

-- a text begins with a line that is too long, whether or not that line ends
pub record BeginsLong (text : Text) : Type 0 where
  pub more : MOST_LINE < length text
  pub one : IsOneLine (take (MOST_LINE + 1) text)

-- a text ends within its first line, which is not too long so far
pub record IsCut (text : Text) : Type 0 where
  pub some : 0 < length text
  pub one : IsOneLine text
  pub short : length text ≤ MOST_LINE

-- bytes have the form of no line
abbrev pub IsFormless : Text → Type 0
IsFormless bytes = (line : Line) → HasForm line → bytes ≡ spelling line → ⊥

-- a text begins with a line of a form
pub record StandsFirst (text : Text) (line : Line) : Type 0 where
  pub form : HasForm line
  pub rest : Text
  pub begins : BeginsWith text (spelling line) rest

-- what a line says was said of the same thing before
abbrev pub IsAgain : List Line → Line → Type 0
IsAgain lines (Free text) = ⊥
IsAgain lines (NamesRow row name args) = IsSome (call_at (row_calls lines) row)
IsAgain lines (NamesCown cown name) = IsSome (call_at (cown_calls lines) cown)

-- a line names a row that isn't there, of so many
abbrev pub IsNoRow : ℕ → Line → Type 0
IsNoRow rows (NamesRow row name args) = rows ≤ row
IsNoRow rows line = ⊥

-- a line names a cown that isn't there, of so many
abbrev pub IsNoCown : ℕ → Line → Type 0
IsNoCown cowns (NamesCown cown name) = cowns ≤ cown
IsNoCown cowns line = ⊥

-- a text that follows these lines begins with a line of a form, with which they are longer than the text of a file may be
pub record GoesBeyond (lines : List Line) (text : Text) : Type 0 where
  pub line : Line
  pub first : StandsFirst text line
  pub beyond : MOST_NAMES < length (lines_text (lines ++ line ∷ []))

-- what is wrong with the first line of what follows these lines, over so many rows and cowns
abbrev pub NextIs : ℕ → ℕ → List Line → Text → NamesFaultKind → Type 0
NextIs rows cowns lines text kinds.Cut = IsCut text
NextIs rows cowns lines text kinds.TooLong = BeginsLong text ⊎ GoesBeyond lines text
NextIs rows cowns lines text kinds.Form = (line : Text) × (rest : Text) × BeginsWith text line rest × IsFormless line
NextIs rows cowns lines text kinds.NoRow = (line : Line) × StandsFirst text line × IsNoRow rows line
NextIs rows cowns lines text kinds.NoCown = (line : Line) × StandsFirst text line × IsNoCown cowns line
NextIs rows cowns lines text kinds.Twice = (line : Line) × StandsFirst text line × IsAgain lines line
NextIs rows cowns lines text kinds.Memory = ⊥

-- the text begins with lines that may be in a file, and the line after them, which has this number, has this wrong
pub record IsWrongAt (text : Text) (rows cowns number : ℕ) (kind : NamesFaultKind) : Type 0 where
  pub lines : List Line
  pub good : AreGood rows cowns lines
  pub rest : Text
  pub split : text ≡ lines_text lines ++ rest
  pub number_is : number ≡ length lines + 1
  pub wrong : NextIs rows cowns lines rest kind

-- the first line of a text that is faulty, and what is wrong with it, or memory was refused
abbrev pub IsFaultOf : Text → ℕ → ℕ → ℕ → NamesFaultKind → Type 0
IsFaultOf text rows cowns number kinds.Memory = Unit {0}
IsFaultOf text rows cowns number kind = IsWrongAt text rows cowns number kind

-- the same of a fault
abbrev pub IsNamesFault : Text → Names → NamesFault → Type 0
IsNamesFault text base fault = IsFaultOf text (length base.rows.items) (length base.cowns.items) fault.line fault.kind
