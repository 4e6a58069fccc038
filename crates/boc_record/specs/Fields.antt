-- Fields of a line, read from the front.
use Rattle.std.specs.Prelude.{◌≡◌, ℕ, ◌<◌, ◌^◌, ◌++◌, List, [], ◌∷◌, All, length, take, slice_index_or, ◌≤◌}
use Rattle.std.specs.Str.Parse.{AllDigits, digits_value}
use Rattle.std.specs.Int.{IsInRange}
use Rattle.boc_program.specs.declared.limits.TheConstants.{MOST_HELD}
use Rattle.boc_runs.specs.Legal.{Entry, entry_cowns, HasBounds}
use Rattle.boc_record.specs.RecordTexts.{Version, First, Second, field, fields, status_number, written_fields}
use Rattle.boc_runs.specs.declared.event.Event.{Event}
use Rattle.boc_runs.specs.declared.event.Event.TheVariants.{Spawn, Start, End}

-- a text that ends, or goes on with a space
abbrev pub IsApart : List ℕ → Type 0
IsApart [] = Unit {0}
IsApart (b ∷ bs) = b ≡ 32

-- a field and what stands behind it
pub record IsField (text : List ℕ) (n : ℕ) (rest : List ℕ) : Type 0 where
  pub small : n < 2 ^ 32
  pub is : text ≡ field n ++ rest
  pub apart : IsApart rest

-- so many digits stand at the front of a text, ten at most, and are worth so much
pub record IsFront (text : List ℕ) (len value : ℕ) : Type 0 where
  pub within : len ≤ length text
  pub few : len ≤ 10
  pub digits : AllDigits 10 (take len text)
  pub worth : digits_value 10 (take len text) ≡ value
  pub ends : len < 10 → len < length text → ¬ (IsInRange 48 57 (slice_index_or text len 0))

-- numbers of 32 bits
abbrev pub AreSmall : List ℕ → Type 0
AreSmall ns = All (λ n. n < 2 ^ 32) ns

-- the sign at the front of an event's line: `+`, `>` or `<`
abbrev pub sign_of : Event → ℕ
sign_of (Spawn row parent offset cowns) = 43
sign_of (Start row) = 62
sign_of (End row ticks status written) = 60

-- the numbers behind it
abbrev pub numbers_of : Version → Event → List ℕ
numbers_of version (Spawn row parent offset cowns) = row ∷ parent ∷ offset ∷ cowns.items
numbers_of version (Start row) = row ∷ []
numbers_of version (End row ticks status written) = row ∷ ticks ∷ status_number status ∷ written_fields version written.items

-- fields behind a sign tell an event
pub record Tells (version : Version) (sign : ℕ) (text : List ℕ) (event : Event) : Type 0 where
  pub sign_is : sign_of event ≡ sign
  pub small : HasBounds event
  pub is : text ≡ fields (numbers_of version event)

-- what a version leaves out: the first stands for all cowns of a row
abbrev pub IsLeftOut : Version → List Entry → ℕ → List ℕ → Type 0
IsLeftOut First rows row written = written ≡ entry_cowns rows row
IsLeftOut Second rows row written = Unit {0}

-- the last fields of a row's end tell what it wrote
pub record TellsWritten (version : Version) (rows : List Entry) (row : ℕ) (text written : List ℕ) : Type 0 where
  pub small : AreSmall written
  pub few : length written ≤ MOST_HELD
  pub is : text ≡ fields (written_fields version written)
  pub left_out : IsLeftOut version rows row written
