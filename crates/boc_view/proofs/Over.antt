-- The note on a drawing of many rows.
use Rattle.std.proofs.Common.{◌≡◌, ◌++◌, ◌<◌, ℕ, zero, suc, List, append_assoc, arith, refl}
use Rattle.std.specs.Prelude.{codes, decimal}
use Rattle.boc_view.specs.Materials.{over_text}

-- the note where there are more rows
some_over : (more rows : ℕ) → 0 < more
    → over_text more rows ≡ codes "boc: note: " ++ decimal rows ++ codes " rows are many for a drawing: see boc-view page\n"
some_over zero rows some = absurd (omega (arith, some))
some_over (suc more) rows some = refl

-- what is put after a text, part by part, is the note
pub put_note : (t x y z : List ℕ) (more rows : ℕ) → 0 < more → x ≡ t ++ codes "boc: note: " → y ≡ x ++ decimal rows
    → z ≡ y ++ codes " rows are many for a drawing: see boc-view page\n" → z ≡ t ++ over_text more rows
put_note t x y z more rows some first second third = rw (some_over more rows some, third, second, first) (simp append_assoc)
