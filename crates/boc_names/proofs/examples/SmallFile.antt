-- The definitions of files of names tried on a small one, and on what must not hold.
use Rattle.std.proofs.Common.{◌≡◌, List, [], ◌∷◌, refl, codes, inl, inr, arith}
use Rattle.std.specs.Fmt.{digits}
use Rattle.boc_names.specs.NamesFile.{Line, Free, NamesRow, NamesCown, IsFree, IsWord, IsAgain, IsNoRow, lines_text, row_text, family_text}
use Rattle.boc_names.specs.NamesFile.{row_calls, cown_calls}
use Rattle.boc_names.specs.NamesFile.{laid}
use Rattle.boc_names.specs.Grouping.{CountUp}

lines : List Line
lines = Free (codes "# a bank") ∷ NamesRow 0 (codes "main") [] ∷ Free [] ∷ NamesRow 12 (codes "move") (codes "3" ∷ codes "a,b" ∷ [])
    ∷ NamesCown 1 (codes "acct[0]") ∷ []

-- the text of the lines
text_of_lines : lines_text lines ≡ codes "# a bank\n= 0 main\n\n= 12 move 3 a,b\n@ 1 acct[0]\n"
unfolding digits lines
text_of_lines = refl

-- what rows are called
with_arguments : row_text (codes "move") (codes "3" ∷ codes "a,b" ∷ []) ≡ codes "move(3, a,b)"
with_arguments = refl

without_arguments : row_text (codes "main") [] ≡ codes "main"
without_arguments = refl

-- members of an array are one family, up to the first `[` that isn't in front
member : family_text (codes "acct[12]") ≡ codes "acct[*]"
member = refl

nested : family_text (codes "grid[1][2]") ≡ codes "grid[*]"
nested = refl

empty_index : family_text (codes "a[]") ≡ codes "a[*]"
empty_index = refl

bracket_in_front : family_text (codes "[[0]") ≡ codes "[[*]"
bracket_in_front = refl

no_base : family_text (codes "[0]") ≡ codes "[0]"
no_base = refl

no_end : family_text (codes "a[0]b") ≡ codes "a[0]b"
no_end = refl

no_bracket : family_text (codes "log]") ≡ codes "log]"
no_bracket = refl

-- a row that isn't named keeps its text, and one that is doesn't
laid_over : laid (λ call. call.text) (row_calls lines) 11 (codes "row 11" ∷ codes "row 12" ∷ codes "row 13" ∷ [])
    ≡ codes "row 11" ∷ codes "move(3, a,b)" ∷ codes "row 13" ∷ []
unfolding lines
laid_over = refl

families_laid_over : laid (λ call. call.group) (cown_calls lines) 0 (codes "cown 0" ∷ codes "cown 1" ∷ []) ≡ codes "cown 0" ∷ codes "acct[*]" ∷ []
unfolding lines
families_laid_over = refl

-- a row that was named is named again by another name too, and a cown with its number isn't
again : IsAgain lines (NamesRow 12 (codes "other") [])
unfolding lines
again = refl

not_again : IsAgain lines (NamesCown 12 (codes "move")) → ⊥
unfolding lines
not_again h = absurd cc

last_row : IsNoRow 12 (NamesRow 11 (codes "move") []) → ⊥
last_row h = omega (arith, h)

-- a line that begins with a blank is not free, and no word is empty, has a blank or a byte that isn't ASCII
blank_in_front : IsFree (codes " #") → ⊥
blank_in_front h = omega (arith, h)

no_empty_word : IsWord [] → ⊥
no_empty_word h = omega (arith, h.0)

no_blank_word : IsWord (codes "a b") → ⊥
no_blank_word h = absurd (let e = h.1 in cc)

no_far_word : IsWord (200 ∷ []) → ⊥
no_far_word h = absurd (let e = h.1 in cc)

-- groups are numbered as they come first
in_order : CountUp 0 (0 ∷ 0 ∷ 1 ∷ 0 ∷ 2 ∷ []) 3
in_order = inr (refl, inl (omega arith, inr (refl, inl (omega arith, inr (refl, refl)))))

not_in_order : CountUp 0 (1 ∷ 0 ∷ []) 2 → ⊥
not_in_order (inl h) = omega (arith, h.0)
not_in_order (inr h) = omega (arith, h.0)

none_without_a_text : CountUp 0 (0 ∷ []) 2 → ⊥
none_without_a_text (inl h) = omega (arith, h.0)
none_without_a_text (inr h) = omega (arith, h.1)
