-- The next wishes of rows that are kept.
use Rattle.std.proofs.Common.{◌≡◌, ℕ, ◌<◌, List, [], ◌∷◌, length, map, ◌∙◌, ap, arith}
use Rattle.std.specs.Prelude.{slice_get, Some}
use Rattle.std.specs.Option.{option_map, option_and_then}
use Rattle.std.proofs.lemmas.Option.{slice_get-map}
use Rattle.boc_program.specs.Meaning.{Wish}
use Rattle.boc_program.specs.Rising.{rising}
use Rattle.boc_follow.specs.declared.row.FollowedRow.{FollowedRow}
use Rattle.boc_follow.specs.Standings.{Standing, standing_in, next_of, next_at, NoChild, IsChild, IsWished}

-- the row at a place stands so
pub stands_at : (rows : List FollowedRow) (r : ℕ) (row : FollowedRow) → slice_get rows r ≡ Some row
    → slice_get (map standing_in rows) r ≡ Some (standing_in row)
stands_at rows r row at = slice_get-map standing_in rows r ∙ ap (option_map standing_in) at

-- and its next wish is that
pub next_kept : (rows : List FollowedRow) (r : ℕ) (row : FollowedRow) → slice_get rows r ≡ Some row
    → next_at (map standing_in rows) r ≡ next_of (standing_in row)
next_kept rows r row at = ap (option_and_then next_of) (stands_at rows r row at)

pub no_child : (rows : List Standing) (parent offset : ℕ) (cowns : List ℕ) → 0 < length rows
    → ((w : Wish) → next_at rows parent ≡ Some w → offset ≡ w.offset → cowns ≡ rising w.cowns → ⊥) → NoChild rows parent offset cowns
no_child [] parent offset cowns some none = absurd (omega arith)
no_child (main ∷ others) parent offset cowns some none = none

pub is_child : (rows : List Standing) (parent offset : ℕ) (cowns : List ℕ) (child : Standing) → 0 < length rows → IsWished rows parent offset cowns child
    → IsChild rows parent offset cowns child
is_child [] parent offset cowns child some wished = absurd (omega arith)
is_child (main ∷ others) parent offset cowns child some wished = wished
