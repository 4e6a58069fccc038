-- The words of edits.
use Rattle.std.specs.Prelude.{◌≡◌, ◌<◌, ◌≤◌, ◌^◌, ◌++◌, ◌⊎◌, ◌==◌, ◌||◌, ℕ, Bool, List, length, get_or, codes, decimal, string_bytes}
use Rattle.std.specs.List.{list_any}
use Rattle.std.specs.Int.{IsInRange}
use Rattle.boc_program.specs.declared.limits.TheConstants.{MOST_PART}
use Rattle.boc_plans.specs.declared.edit.Change.{Change}
use Rattle.boc_plans.specs.declared.edit.Change.TheVariants.{Ticks, Offset, Cost}
use Rattle.boc_plans.specs.Fractions.{Fraction}
use Rattle.boc_words.specs.declared.asked.AskedEdit.{AskedEdit}
use Rattle.boc_words.specs.declared.asked.AskedEdit.TheVariants.{Row, Def}

-- what stands behind the row: `=TICKS`, that it takes so many ticks; `@OFFSET`, that it is spawned at this tick of its parent; or `=K/D`, that
-- it costs this part
abbrev pub change_word : Change → List ℕ
change_word (Ticks ticks) = codes "=" ++ decimal ticks
change_word (Offset offset) = codes "@" ++ decimal offset
change_word (Cost part) = codes "=" ++ (decimal part.over ++ (codes "/" ++ decimal part.under))

-- the word of a cost: who has it, and `=K/D`
abbrev pub cost_word : List ℕ → Fraction → List ℕ
cost_word subject part = subject ++ change_word (Cost part)

-- the word of an edit: the row, and what of it is to change; or the name of a def, each row of which is to cost a part
abbrev pub edit_word : AskedEdit → List ℕ
edit_word (Row edit) = decimal edit.row ++ change_word edit.change
edit_word (Def name part) = cost_word (string_bytes name) part

-- the two numbers of the part are from 1 to 1,000
abbrev pub IsPart : Fraction → Type 0
IsPart part = (0 < part.over) × (part.over ≤ MOST_PART) × (0 < part.under) × (part.under ≤ MOST_PART)

-- the ticks, or the offset, have 32 bits, or the two numbers of the part are from 1 to 1,000
abbrev pub IsWritableChange : Change → Type 0
IsWritableChange (Ticks ticks) = ticks < 2 ^ 32
IsWritableChange (Offset offset) = offset < 2 ^ 32
IsWritableChange (Cost part) = IsPart part

-- some byte of the text is no digit
abbrev pub HasOther : List ℕ → Type 0
HasOther text = (i : ℕ) × (i < length text) × (IsInRange 48 57 (get_or text i 0) → ⊥)

-- an equals sign
abbrev pub equals_sign : ℕ
equals_sign = 61

-- an at sign
abbrev pub at_sign : ℕ
at_sign = 64

-- whether the word looks like an edit: it has an equals sign or an at sign
abbrev pub is_edit : List ℕ → Bool
is_edit word = list_any (λ b. (b == equals_sign) || (b == at_sign)) word

-- the edit has only numbers that an edit can have; and a name is not of digits alone, as a row's number is
abbrev pub IsWritable : AskedEdit → Type 0
IsWritable (Row edit) = (edit.row < 2 ^ 32) × IsWritableChange edit.change
IsWritable (Def name part) = HasOther (string_bytes name) × IsPart part

-- a row's number, or a name
abbrev pub IsSubject : List ℕ → Type 0
IsSubject subject = ((row : ℕ) × (row < 2 ^ 32) × (subject ≡ decimal row)) ⊎ HasOther subject

-- the word is that of an edit
pub record IsEditWord (word : List ℕ) : Type 0 where
  pub edit : AskedEdit
  pub writable : IsWritable edit
  pub spells : word ≡ edit_word edit

-- the word is that of the cost of a row or of a def's rows
pub record IsCostWord (word : List ℕ) : Type 0 where
  pub subject : List ℕ
  pub part : Fraction
  pub named : IsSubject subject
  pub is_part : IsPart part
  pub spells : word ≡ cost_word subject part
