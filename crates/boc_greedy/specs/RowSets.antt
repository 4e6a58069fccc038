-- Sets of rows, as words of bits.
use Rattle.std.specs.Prelude.{◌≡◌, ℕ, ◌/◌, ◌%◌, ◌<◌, ◌↔◌, List, length, slice_index}
use Rattle.std.specs.Int.{bit_at}
use Rattle.boc_greedy.specs.declared.row_set.RowSet.{RowSet}

-- bit i of some words is set, where each word has 64 bits
abbrev pub IsSet : List ℕ → ℕ → Type 0
IsSet words i = bit_at (slice_index words (i / 64)) (i % 64) ≡ 1

-- the set has row r
abbrev pub Has : RowSet → ℕ → Type 0
Has s r = IsSet s.rows.items r

-- there is room for 65,536 rows, and on both upper levels a bit is set exactly where the word below it is not 0
pub record IsRowSet (s : RowSet) : Type 0 where
  pub rows_room : length s.rows.items ≡ 1024
  pub words_room : length s.words ≡ 16
  pub words : (w : ℕ) → IsSet s.words w ↔ 0 < slice_index s.rows.items w
  pub top : (w : ℕ) → bit_at s.top w ≡ 1 ↔ 0 < slice_index s.words w
