-- Texts that are stored one after the other.
use Rattle.std.proofs.Common.{◌≡◌, ℕ, zero, suc, ◌+◌, ◌*◌, ◌<◌, ◌≤◌, max, List, [], ◌∷◌, ◌++◌, refl, ap, sym, ◌∙◌, arith, length, map, flat_map, append_assoc}
use Rattle.std.proofs.Common.{take, drop, get_or, length-append, length-take, length-drop}
use Rattle.std.specs.Prelude.{sum, slice_index, slice_index_or}
use Rattle.std.specs.List.{range_with_len}
use Rattle.std.proofs.lemmas.Grind.{same_number_lists}
use Rattle.std.proofs.lemmas.List.{drop-drop, take-append-le, drop-append-le, take_at, drop_at, drop_more, take_all, nil_from_length, get_or-take}
use Rattle.std.proofs.lemmas.List.Sums.{sum_by-cons, sum_by-append, sum_by-drop_more, sum_by-take-drop, sum-map}
use Rattle.std.proofs.lemmas.List.Concat.{length-flat_map}
use Rattle.std.proofs.lemmas.List.FromFn.{length-map-range_with_len, get_or-map-range_with_len}
use Rattle.boc_table.specs.declared.side.Side.{Side}
use Rattle.boc_table.specs.Tables.{blanks, line_text, padded, padded_texts, table_text, width_of, widths_of}
use Rattle.boc_table.specs.Storage.{AreStored, lines_of, stored_width, stored_widths, texts_of}

sum_first : (len : ℕ) (lens : List ℕ) → sum (len ∷ lens) ≡ len + sum lens
sum_first len lens = sum_by-cons (λ x. x) len lens

-- the parts of lengths have a part of their sum each
pub sum_parts : (n : ℕ) (lens : List ℕ) → sum (take n lens) + sum (drop n lens) ≡ sum lens
sum_parts n lens = sum_by-take-drop (λ x. x) lens n

-- more bytes behind them change no texts
texts_before : (lens bytes more : List ℕ) → sum lens ≤ length bytes → texts_of lens (bytes ++ more) ≡ texts_of lens bytes
texts_before [] bytes more few = refl
texts_before (len ∷ lens) bytes more few =
    let all : len + sum lens ≤ length bytes = omega (arith, few, sum_first len lens) in
    let within : len ≤ length bytes = omega arith in
    ap (λ text. text ∷ texts_of lens (drop len (bytes ++ more))) (take-append-le len bytes more within)
    ∙ ap (λ texts. take len bytes ∷ texts) (ap (texts_of lens) (drop-append-le len bytes more within)
    ∙ texts_before lens (drop len bytes) more (omega (arith, length-drop len bytes)))

-- texts are stored by their lengths and one after the other
pub texts_stored : {X : Type 0} (text : X → List ℕ) (cells : List X) → texts_of (map (λ c. length (text c)) cells) (flat_map text cells) ≡ map text cells
texts_stored text [] = refl
texts_stored text (cell ∷ cells) =
    ap (λ t. t ∷ texts_of (map (λ c. length (text c)) cells) (drop (length (text cell)) (text cell ++ flat_map text cells)))
    (take_at (text cell) (flat_map text cells) (length (text cell)) refl)
    ∙ ap (λ texts. text cell ∷ texts) (ap (texts_of (map (λ c. length (text c)) cells))
    (drop_at (text cell) (flat_map text cells) (length (text cell)) refl) ∙ texts_stored text cells)

-- without the lengths of a line those of the others are left
pub lens_left : (n count columns : ℕ) (lens : List ℕ) → length lens ≡ n * columns → n ≡ suc count → length (drop columns lens) ≡ count * columns
lens_left n count columns lens long is = omega (arith, long ∙ ap (λ m. m * columns) is, length-drop columns lens)

-- without the first line the others are stored
pub rest_stored : (count columns : ℕ) (lens bytes : List ℕ) → AreStored (suc count) columns lens bytes
    → AreStored count columns (drop columns lens) (drop (sum (take columns lens)) bytes)
rest_stored count columns lens bytes stored = record {
  all = omega (arith, stored.all, length-drop columns lens);
  whole = omega (arith, stored.whole, sum_parts columns lens, length-drop (sum (take columns lens)) bytes);
}

-- a line more
pub lines_more : (count columns : ℕ) (lens bytes more_lens more : List ℕ) → AreStored count columns lens bytes → length more_lens ≡ columns
    → lines_of (suc count) columns (lens ++ more_lens) (bytes ++ more) ≡ lines_of count columns lens bytes ++ texts_of more_lens more ∷ []
lines_more zero columns lens bytes more_lens more stored long =
    let no_lens : lens ≡ [] = nil_from_length lens (omega (arith, stored.all)) in
    let no_bytes : bytes ≡ [] = nil_from_length bytes (sym stored.whole ∙ ap sum no_lens) in
    ap (λ ls. texts_of (take columns (ls ++ more_lens)) (bytes ++ more) ∷ []) no_lens
    ∙ ap (λ bs. texts_of (take columns more_lens) (bs ++ more) ∷ []) no_bytes
    ∙ ap (λ ls. texts_of ls more ∷ []) (take_all columns more_lens (omega (arith, long)))
lines_more (suc count) columns lens bytes more_lens more stored long =
    let within : columns ≤ length lens = omega (arith, stored.all) in
    let few : sum (take columns lens) ≤ length bytes = omega (arith, stored.whole, sum_parts columns lens) in
    ap (λ ls. texts_of ls (bytes ++ more) ∷ lines_of (suc count) columns (drop columns (lens ++ more_lens)) (drop (sum ls) (bytes ++ more)))
    (take-append-le columns lens more_lens within)
    ∙ ap (λ ls. texts_of (take columns lens) (bytes ++ more) ∷ lines_of (suc count) columns ls (drop (sum (take columns lens)) (bytes ++ more)))
    (drop-append-le columns lens more_lens within)
    ∙ ap (λ bs. texts_of (take columns lens) (bytes ++ more) ∷ lines_of (suc count) columns (drop columns lens ++ more_lens) bs)
    (drop-append-le (sum (take columns lens)) bytes more few)
    ∙ ap (λ texts. texts ∷ lines_of (suc count) columns (drop columns lens ++ more_lens) (drop (sum (take columns lens)) bytes ++ more))
    (texts_before (take columns lens) bytes more few)
    ∙ ap (λ lines. texts_of (take columns lens) bytes ∷ lines)
    (lines_more count columns (drop columns lens) (drop (sum (take columns lens)) bytes) more_lens more (rest_stored count columns lens bytes stored) long)

-- and with one more they are stored
pub more_stored : (count columns : ℕ) (lens bytes more_lens more : List ℕ) → AreStored count columns lens bytes → length more_lens ≡ columns
    → sum more_lens ≡ length more
    → AreStored (suc count) columns (lens ++ more_lens) (bytes ++ more)
more_stored count columns lens bytes more_lens more stored long whole = record {
  all = omega (arith, stored.all, long, length-append lens more_lens);
  whole = omega (arith, stored.whole, whole, length-append bytes more, sum_by-append (λ x. x) lens more_lens);
}

-- the length of a text that is stored
text_width : (lens bytes : List ℕ) (k : ℕ) → sum lens ≤ length bytes → k < length lens → length (slice_index_or (texts_of lens bytes) k []) ≡ slice_index lens k
text_width [] bytes k few small = absurd (omega arith)
text_width (len ∷ lens) bytes zero few small = omega (arith, few, sum_first len lens, length-take len bytes)
text_width (len ∷ lens) bytes (suc k) few small =
    text_width lens (drop len bytes) k (omega (arith, few, sum_first len lens, length-drop len bytes)) (omega arith)

-- the lengths tell how wide a column is
width_stored : (count columns : ℕ) (lens bytes : List ℕ) (k : ℕ) → AreStored count columns lens bytes → k < columns
    → stored_width columns count lens k ≡ width_of k (lines_of count columns lens bytes)
width_stored zero columns lens bytes k stored small = refl
width_stored (suc count) columns lens bytes k stored small =
    let within : columns ≤ length lens = omega (arith, stored.all) in
    let few : sum (take columns lens) ≤ length bytes = omega (arith, stored.whole, sum_parts columns lens) in
    ap (λ width. max width (stored_width columns count (drop columns lens) k))
    (sym (get_or-take columns lens k 0 small) ∙ sym (text_width (take columns lens) bytes k few (omega (arith, length-take columns lens))))
    ∙ ap (max (length (slice_index_or (texts_of (take columns lens) bytes) k [])))
    (width_stored count columns (drop columns lens) (drop (sum (take columns lens)) bytes) k (rest_stored count columns lens bytes stored) small)

-- and how wide each is
pub widths_stored : (count columns : ℕ) (lens bytes : List ℕ) → AreStored count columns lens bytes
    → stored_widths columns count lens ≡ widths_of columns (lines_of count columns lens bytes)
widths_stored count columns lens bytes stored =
    let lines = lines_of count columns lens bytes in
    let width : ℕ → ℕ = stored_width columns count lens in
    let long : length (map width (range_with_len 0 columns)) ≡ columns = length-map-range_with_len width 0 columns in
    same_number_lists (map width (range_with_len 0 columns)) (map (λ k. width_of k lines) (range_with_len 0 columns))
    (long ∙ sym (length-map-range_with_len (λ k. width_of k lines) 0 columns))
    (λ k small. get_or-map-range_with_len width 0 columns k k 0 (omega (arith, small, long)) (omega arith)
    ∙ width_stored count columns lens bytes k stored (omega (arith, small, long))
    ∙ sym (get_or-map-range_with_len (λ j. width_of j lines) 0 columns k k 0 (omega (arith, small, long)) (omega arith)))

-- widths that agree with those of the columns are those
pub are_widths : (columns count : ℕ) (lens widths : List ℕ) → length widths ≡ columns
    → ((k : ℕ) → k < columns → slice_index widths k ≡ stored_width columns count lens k)
    → widths ≡ stored_widths columns count lens
are_widths columns count lens widths long each =
    let width : ℕ → ℕ = stored_width columns count lens in
    same_number_lists widths (map width (range_with_len 0 columns)) (long ∙ sym (length-map-range_with_len width 0 columns))
    (λ k small. each k (omega (arith, small, long)) ∙ sym (get_or-map-range_with_len width 0 columns k k 0 (omega (arith, small, long)) (omega arith)))

-- the texts from a column on
pub texts_from : (sides : List Side) (widths lens bytes : List ℕ) (k : ℕ) (side : Side) → k < length sides → length widths ≡ length sides
    → length lens ≡ length sides
    → padded_texts (drop k sides) (drop k widths) (texts_of (drop k lens) bytes)
    ≡ padded (get_or sides k side) (get_or widths k 0) (take (get_or lens k 0) bytes)
    ∷ padded_texts (drop (k + 1) sides) (drop (k + 1) widths) (texts_of (drop (k + 1) lens) (drop (get_or lens k 0) bytes))
texts_from sides widths lens bytes k side small wide long =
    ap (λ ss. padded_texts ss (drop k widths) (texts_of (drop k lens) bytes)) (drop_more sides k side small)
    ∙ ap (λ ws. padded_texts (get_or sides k side ∷ drop (k + 1) sides) ws (texts_of (drop k lens) bytes)) (drop_more widths k 0 (omega arith))
    ∙ ap (λ ls. padded_texts (get_or sides k side ∷ drop (k + 1) sides) (get_or widths k 0 ∷ drop (k + 1) widths) (texts_of ls bytes))
    (drop_more lens k 0 (omega arith))

-- behind a text of them the others have the bytes that are left
pub texts_left : (lens bytes : List ℕ) (k : ℕ) → k < length lens → sum (drop k lens) ≤ length bytes
    → (sum (drop (k + 1) lens) ≤ length (drop (get_or lens k 0) bytes))
    × (drop (sum (drop (k + 1) lens)) (drop (get_or lens k 0) bytes) ≡ drop (sum (drop k lens)) bytes)
texts_left lens bytes k small whole =
    let parts : sum (drop k lens) ≡ get_or lens k 0 + sum (drop (k + 1) lens) = sum_by-drop_more (λ x. x) lens k 0 small in (
      omega (arith, parts, whole, length-drop (get_or lens k 0) bytes),
      drop-drop (sum (drop (k + 1) lens)) (get_or lens k 0) bytes ∙ ap (λ n. drop n bytes) (sym parts),
    )

-- a text is put behind others, and two blanks behind it
pub text_put : (text cell : List ℕ) (cells : List (List ℕ)) → ((text ++ cell) ++ blanks 2) ++ flat_map (λ t. t ++ blanks 2) cells
    ≡ text ++ flat_map (λ t. t ++ blanks 2) (cell ∷ cells)
text_put text cell cells = simp append_assoc

-- a line is put behind others
pub line_put : (sides : List Side) (widths text : List ℕ) (n count columns : ℕ) (lens bytes : List ℕ) → n ≡ suc count
    → (text ++ line_text sides widths (texts_of (take columns lens) bytes))
    ++ flat_map (line_text sides widths) (lines_of count columns (drop columns lens) (drop (sum (take columns lens)) bytes))
    ≡ text ++ flat_map (line_text sides widths) (lines_of n columns lens bytes)
line_put sides widths text n count columns lens bytes is =
    append_assoc text (line_text sides widths (texts_of (take columns lens) bytes)) _
    ∙ ap (λ m. text ++ flat_map (line_text sides widths) (lines_of m columns lens bytes)) (sym is)

-- the lengths of texts are so many as these have bytes
pub lens_sum : {X : Type 0} (text : X → List ℕ) (cells : List X) → sum (map (λ c. length (text c)) cells) ≡ length (flat_map text cells)
lens_sum text cells = sum-map (λ c. length (text c)) cells ∙ sym (length-flat_map text cells)

-- there are as many widths as columns
pub widths_counted : (columns count : ℕ) (lens : List ℕ) → length (stored_widths columns count lens) ≡ columns
widths_counted columns count lens = length-map-range_with_len (stored_width columns count lens) 0 columns

-- lines with the widths that their lengths tell are the text of the table
pub table_put : (sides : List Side) (count : ℕ) (lens bytes widths : List ℕ) → AreStored count (length sides) lens bytes
    → widths ≡ stored_widths (length sides) count lens
    → flat_map (line_text sides widths) (lines_of count (length sides) lens bytes) ≡ table_text sides (lines_of count (length sides) lens bytes)
table_put sides count lens bytes widths stored are =
    ap (λ ws. flat_map (line_text sides ws) (lines_of count (length sides) lens bytes)) (are ∙ widths_stored count (length sides) lens bytes stored)
