use Rattle.std.proofs.Common.{◌≡◌, ℕ, length, Some}
use Rattle.std.specs.Prelude.{slice_get}
use Rattle.boc_pictures.specs.declared.subject.Shown.{Shown}
use Rattle.boc_pictures.specs.Subjects.{IsShownAs}
use Rattle.boc_pictures.proofs.subject.shown_of.Given as goal

-- the rows so far are shown
abbrev pub invariant-loop-row : goal.invariant-loop-row
invariant-loop-row l =
    (length l.shown.items ≡ l.row)
    × ((r : ℕ) (one : Shown) → slice_get l.shown.items r ≡ Some one → IsShownAs l.rows l.plan.starts.items l.steps r one)
