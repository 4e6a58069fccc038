-- Edits of rows: some take other ticks, are spawned at another tick, or cost a part of what they did.
use Rattle.std.specs.Prelude.{◌≡◌, ℕ, ◌+◌, ◌<◌, ◌≤◌, max, List, [], ◌∷◌, ◌++◌, length, slice_index}
use Rattle.boc_program.specs.declared.limits.TheConstants.{MOST_TICKS}
use Rattle.boc_runs.specs.declared.rows.Row.{Row}
use Rattle.boc_plans.specs.declared.edit.Edit.{Edit}
use Rattle.boc_plans.specs.declared.edit.EditFault.{EditFault}
use Rattle.boc_plans.specs.declared.edit.EditFault.TheVariants.{NoRow, BelowSpawn, TooManyTicks, NoParent, NotBetween}
use Rattle.boc_plans.specs.declared.edit.Change.{Change}
use Rattle.boc_plans.specs.declared.edit.Change.TheVariants.{Ticks, Offset, Cost}
use Rattle.boc_plans.specs.Fractions.{Fraction}
use Rattle.boc_runs.specs.Rows.{IsLast, edited, Fits, parent_of, ticks_of}
use Rattle.boc_runs.specs.Changes.{FitsAt, IsScaled, moved, without}
use Rattle.boc_plans.specs.Greedy.{IsSpan}

-- the least ticks that a row can take: the offset of its last child, and 1 at least
pub record IsLeastTicks (rows : List Row) (row least : ℕ) : Type 0 where
  pub last : ℕ
  pub is_last : IsLast rows (length rows) row last
  pub is : least ≡ max 1 last

-- the row is there, and the ticks are below the least that it can take
pub record IsBelowSpawn (rows : List Row) (row ticks : ℕ) : Type 0 where
  pub there : row < length rows
  pub least : ℕ
  pub is_least : IsLeastTicks rows row least
  pub below : ticks < least

-- the row is there, and the ticks are no fewer than it can take, but too many
pub record AreTooMany (rows : List Row) (row ticks : ℕ) : Type 0 where
  pub there : row < length rows
  pub least : ℕ
  pub is_least : IsLeastTicks rows row least
  pub covers : least ≤ ticks
  pub above : MOST_TICKS < ticks

-- the row is there and isn't main, and cannot be spawned at this tick of its parent
pub record IsNotBetween (rows : List Row) (row offset : ℕ) : Type 0 where
  pub child : 0 < row
  pub there : row < length rows
  pub unfit : FitsAt rows row offset → ⊥

-- the row is there, and would take too many ticks, once it costs so much
pub record IsTooCostly (rows : List Row) (row : ℕ) (part : Fraction) : Type 0 where
  pub there : row < length rows
  pub after : List Row
  pub scaled : IsScaled rows row part.over part.under after
  pub above : MOST_TICKS < ticks_of after row

-- what is wrong where a row that is there cannot be changed so
abbrev pub IsChangeFault : List Row → ℕ → Change → EditFault → Type 0
IsChangeFault rows row (Ticks ticks) BelowSpawn = IsBelowSpawn rows row ticks
IsChangeFault rows row (Ticks ticks) TooManyTicks = AreTooMany rows row ticks
IsChangeFault rows row (Offset offset) NoParent = (row ≡ 0) × (row < length rows)
IsChangeFault rows row (Offset offset) NotBetween = IsNotBetween rows row offset
IsChangeFault rows row (Cost part) TooManyTicks = IsTooCostly rows row part
IsChangeFault rows row change fault = ⊥

-- a row is to take so many ticks
abbrev pub takes : ℕ → ℕ → Edit
takes row ticks = record { row = row; change = Ticks ticks }

-- what is wrong where an edit does not fit
abbrev pub IsEditFault : List Row → Edit → EditFault → Type 0
IsEditFault rows edit NoRow = length rows ≤ edit.row
IsEditFault rows edit BelowSpawn = IsChangeFault rows edit.row edit.change BelowSpawn
IsEditFault rows edit TooManyTicks = IsChangeFault rows edit.row edit.change TooManyTicks
IsEditFault rows edit NoParent = IsChangeFault rows edit.row edit.change NoParent
IsEditFault rows edit NotBetween = IsChangeFault rows edit.row edit.change NotBetween

-- a row can be changed so, and these are the rows after it
abbrev pub IsChanged : List Row → ℕ → Change → List Row → Type 0
IsChanged rows row (Ticks ticks) after = Fits rows row ticks × (after ≡ edited rows row ticks)
IsChanged rows row (Offset offset) after = FitsAt rows row offset × (after ≡ moved rows row offset)
IsChanged rows row (Cost part) after =
    (row < length rows) × IsScaled rows row part.over part.under after × (ticks_of after row ≤ MOST_TICKS)

-- the edits fit, each the rows as those before it have made them, and these are the rows after them
abbrev pub AreEdited : List Row → List Edit → List Row → Type 0
AreEdited rows [] after = after ≡ rows
AreEdited rows (edit ∷ edits) after = (next : List Row) × IsChanged rows edit.row edit.change next × AreEdited next edits after

-- The edit of this number, counted from 1, is the first that does not fit. Those before it fit, and it has this fault on the rows as they have made them.
pub record IsFirstUnfit (rows : List Row) (edits : List Edit) (number : ℕ) (fault : EditFault) : Type 0 where
  pub before : List Edit
  pub edit : Edit
  pub after : List Edit
  pub split : edits ≡ before ++ (edit ∷ after)
  pub number_is : number ≡ length before + 1
  pub made : List Row
  pub edited : AreEdited rows before made
  pub wrong : IsEditFault made edit fault

-- the span of the rows in which one row takes the least ticks that it can
pub record IsLeastSpan (rows : List Row) (row span : ℕ) : Type 0 where
  pub least : ℕ
  pub is_least : IsLeastTicks rows row least
  pub is_span : IsSpan (edited rows row least) span

-- for each row the span of the rows in which that row takes the least ticks that it can
pub record IsSweep (rows : List Row) (spans : List ℕ) : Type 0 where
  pub whole : length spans ≡ length rows
  pub at : (row : ℕ) → row < length rows → IsLeastSpan rows row (slice_index spans row)

-- the least tick of its parent at which a row can be spawned: the one after its elder sibling's offset, or 1 where it has no elder sibling
pub record IsLeastOffset (rows : List Row) (row least : ℕ) : Type 0 where
  pub elder : ℕ
  pub is_elder : IsLast rows row (parent_of rows row) elder
  pub is : least ≡ elder + 1

-- the span of the rows in which one row is spawned as early as it can be
pub record IsEarlySpan (rows : List Row) (row span : ℕ) : Type 0 where
  pub least : ℕ
  pub is_least : IsLeastOffset rows row least
  pub is_span : IsSpan (moved rows row least) span

-- for each row but main the span of the rows in which that row is spawned as early as it can be
pub record IsSpawnSweep (rows : List Row) (spans : List ℕ) : Type 0 where
  pub whole : length spans + 1 ≡ length rows
  pub at : (place : ℕ) → place < length spans → IsEarlySpan rows (place + 1) (slice_index spans place)

-- for each of so many cowns, whether some row has it or not, the span of the rows without it
pub record IsCownSweep (rows : List Row) (count : ℕ) (spans : List ℕ) : Type 0 where
  pub whole : length spans ≡ count
  pub at : (cown : ℕ) → cown < count → IsSpan (without cown rows) (slice_index spans cown)
