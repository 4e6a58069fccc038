-- What one line of a file of names says.
use Rattle.std.specs.Prelude.{◌≡◌, ◌≢◌, ℕ, ◌<◌, ◌≤◌, ◌^◌, List, [], ◌∷◌, ◌++◌, length, drop, slice_index, codes, decimal}
use Rattle.std.specs.List.{AllByRecursion}
use Rattle.boc_names.specs.declared.entry.Called.{Called}
use Rattle.boc_names.specs.declared.entry.Said.{Said}
use Rattle.boc_names.specs.declared.entry.Said.TheVariants.{Nothing, OfRow, OfCown}
use Rattle.boc_names.specs.declared.fault.NamesFaultKind.{NamesFaultKind}
use Rattle.boc_names.specs.declared.fault.NamesFaultKind.TheVariants as kinds
use Rattle.boc_names.specs.Names.{Text}
use Rattle.boc_names.specs.NamesFile.{Line, Free, NamesRow, NamesCown, IsWord, HasForm, BeginsWith, BeginsLong, IsCut, IsFormless, spaced, spelling}
use Rattle.boc_names.specs.NamesFile.{more_words, row_text, family_text}

-- the number and the name of a kind of fault
abbrev pub kind_line : NamesFaultKind → List ℕ
kind_line kinds.Cut = codes "1 Cut"
kind_line kinds.TooLong = codes "2 TooLong"
kind_line kinds.Form = codes "3 Form"
kind_line kinds.NoRow = codes "4 NoRow"
kind_line kinds.NoCown = codes "5 NoCown"
kind_line kinds.Twice = codes "6 Twice"
kind_line kinds.Memory = codes "7 Memory"

-- the first line of a text, and what is after its line feed
abbrev pub Splits : Text → Text → Text → Type 0
Splits text line rest = BeginsWith text line rest × (length rest < length text)

-- a text has no first line, for this reason
abbrev pub IsOfSplit : Text → NamesFaultKind → Type 0
IsOfSplit text kinds.Cut = IsCut text
IsOfSplit text kinds.TooLong = BeginsLong text
IsOfSplit text _ = ⊥

-- a text that ends, or goes on with a blank
abbrev pub IsApart : Text → Type 0
IsApart [] = Unit {0}
IsApart (first ∷ others) = first ≡ 32

-- so many bytes come before the first blank
pub record BreaksAt (text : Text) (len : ℕ) : Type 0 where
  pub within : len ≤ length text
  pub unbroken : (k : ℕ) → k < len → slice_index text k ≢ 32
  pub apart : IsApart (drop len text)

-- a word stands at the front of a text, after a blank, and this is after the word
pub record IsNext (text word rest : Text) : Type 0 where
  pub is_word : IsWord word
  pub is : text ≡ codes " " ++ word ++ rest
  pub apart : IsApart rest

-- a number and a name stand at the front of a text, and this is after them
pub record IsNumbered (text : Text) (number : ℕ) (name rest : Text) : Type 0 where
  pub small : number < 2 ^ 32
  pub is_word : IsWord name
  pub is : text ≡ codes " " ++ decimal number ++ (codes " " ++ name ++ rest)
  pub apart : IsApart rest

-- a text is none of words, each after a blank, or memory was refused
abbrev pub IsOfWords : Text → NamesFaultKind → Type 0
IsOfWords text kinds.Form = (words : List Text) → AllByRecursion IsWord words → text ≡ spaced words → ⊥
IsOfWords text kinds.Memory = Unit {0}
IsOfWords text _ = ⊥

-- the words of a text were appended to others
abbrev pub PutsWords : Text → Text → Text → Type 0
PutsWords text old new = (words : List Text) × AllByRecursion IsWord words × (text ≡ spaced words) × (new ≡ old ++ more_words words)

-- the words of a text are arguments, with which the row of a name is called so
abbrev pub SaysWords : Text → Text → Text → Type 0
SaysWords name text said = (args : List Text) × AllByRecursion IsWord args × (text ≡ spaced args) × (said ≡ row_text name args)

-- a text names a row, which is called so
pub record SaysRow (text : Text) (row : ℕ) (called : Called) : Type 0 where
  pub name : Text
  pub args : List Text
  pub form : HasForm (NamesRow row name args)
  pub is : text ≡ spaced (decimal row ∷ name ∷ args)
  pub called_is : called.text.items ≡ row_text name args
  pub group_is : called.group.items ≡ name

-- a text names no row, or memory was refused
abbrev pub IsOfRow : Text → NamesFaultKind → Type 0
IsOfRow text kinds.Form = (row : ℕ) (name : Text) (args : List Text) → HasForm (NamesRow row name args) → text ≡ spaced (decimal row ∷ name ∷ args) → ⊥
IsOfRow text kinds.Memory = Unit {0}
IsOfRow text _ = ⊥

-- a text names a cown, which is called so
pub record SaysCown (text : Text) (cown : ℕ) (called : Called) : Type 0 where
  pub name : Text
  pub form : HasForm (NamesCown cown name)
  pub is : text ≡ spaced (decimal cown ∷ name ∷ [])
  pub called_is : called.text.items ≡ name
  pub group_is : called.group.items ≡ family_text name

-- a text names no cown, or memory was refused
abbrev pub IsOfCown : Text → NamesFaultKind → Type 0
IsOfCown text kinds.Form = (cown : ℕ) (name : Text) → HasForm (NamesCown cown name) → text ≡ spaced (decimal cown ∷ name ∷ []) → ⊥
IsOfCown text kinds.Memory = Unit {0}
IsOfCown text _ = ⊥

-- a line says this
abbrev pub Says : Line → Said → Type 0
Says (Free text) Nothing = Unit {0}
Says (NamesRow row name args) (OfRow number called) =
    (row ≡ number) × (called.text.items ≡ row_text name args) × (called.group.items ≡ name)
Says (NamesCown cown name) (OfCown number called) =
    (cown ≡ number) × (called.text.items ≡ name) × (called.group.items ≡ family_text name)
Says line said = ⊥

-- bytes are those of a line that says this
pub record SaysLine (bytes : Text) (said : Said) : Type 0 where
  pub line : Line
  pub form : HasForm line
  pub is : bytes ≡ spelling line
  pub says : Says line said

-- bytes are those of no line, or memory was refused
abbrev pub IsOfLine : Text → NamesFaultKind → Type 0
IsOfLine bytes kinds.Form = IsFormless bytes
IsOfLine bytes kinds.Memory = Unit {0}
IsOfLine bytes _ = ⊥
