-- Fields of a line of a stream, read from the front.
use Rattle.std.specs.Prelude.{◌≡◌, ℕ, ◌<◌, ◌≤◌, ◌^◌, ◌++◌, List, All, length, take, slice_index_or}
use Rattle.std.specs.Str.Parse.{AllDigits, digits_value}
use Rattle.std.specs.Int.{IsInRange}
use Rattle.boc_record.specs.Fields.{IsApart}
use Rattle.boc_record.specs.RecordTexts.{field, fields}
use Rattle.boc_stream.specs.declared.fields.TheConstants.{MOST_DIGITS}

-- a number of at most 18 digits
abbrev pub IsShort : ℕ → Type 0
IsShort n = n < 10 ^ 18

-- such numbers
abbrev pub AreShort : List ℕ → Type 0
AreShort ns = All (λ n. n < 10 ^ 18) ns

-- a field and what stands behind it
pub record IsShortField (text : List ℕ) (n : ℕ) (rest : List ℕ) : Type 0 where
  pub small : IsShort n
  pub is : text ≡ field n ++ rest
  pub apart : IsApart rest

-- so many digits stand at the front of a text, eighteen at most, and are worth so much
pub record IsShortFront (text : List ℕ) (len value : ℕ) : Type 0 where
  pub within : len ≤ length text
  pub few : len ≤ MOST_DIGITS
  pub digits : AllDigits 10 (take len text)
  pub worth : digits_value 10 (take len text) ≡ value
  pub ends : len < MOST_DIGITS → len < length text → ¬ (IsInRange 48 57 (slice_index_or text len 0))

-- the text of such numbers
pub record IsOfShorts (text ns : List ℕ) : Type 0 where
  pub small : AreShort ns
  pub is : text ≡ fields ns
