-- How the lines of a table are stored: the lengths of their texts, and the texts one after the other.
use Rattle.std.specs.Prelude.{◌≡◌, ℕ, zero, suc, ◌*◌, max, List, [], ◌∷◌, length, map, take, drop, sum, slice_index}
use Rattle.std.specs.List.{range_with_len}

-- the texts of these lengths that stand one after the other at the front of bytes
abbrev pub texts_of : List ℕ → List ℕ → List (List ℕ)
texts_of [] bytes = []
texts_of (len ∷ lens) bytes = take len bytes ∷ texts_of lens (drop len bytes)

-- the lines of so many columns whose texts stand so
abbrev pub lines_of : ℕ → ℕ → List ℕ → List ℕ → List (List (List ℕ))
lines_of zero columns lens bytes = []
lines_of (suc count) columns lens bytes =
    texts_of (take columns lens) bytes ∷ lines_of count columns (drop columns lens) (drop (sum (take columns lens)) bytes)

-- so many lines of so many columns have so many lengths, and the texts have all of the bytes
pub record AreStored (count columns : ℕ) (lens bytes : List ℕ) : Type 0 where
  pub all : length lens ≡ count * columns
  pub whole : sum lens ≡ length bytes

-- how wide a column is, by the lengths of its texts
abbrev pub stored_width : ℕ → ℕ → List ℕ → ℕ → ℕ
stored_width columns zero lens column = 0
stored_width columns (suc count) lens column = max (slice_index lens column) (stored_width columns count (drop columns lens) column)

-- how wide each of so many columns is
abbrev pub stored_widths : ℕ → ℕ → List ℕ → List ℕ
stored_widths columns count lens = map (stored_width columns count lens) (range_with_len 0 columns)
