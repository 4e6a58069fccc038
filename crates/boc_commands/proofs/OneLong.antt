-- Of the rows of one run there is one note on those that take very long.
use Rattle.std.proofs.Common.{◌≡◌, ◌∙◌, ℕ, Bool, true, false, List, Option, inl, inr, ap, subst, sym}
use Rattle.boc_runs.specs.declared.rows.Row.{Row}
use Rattle.boc_plans.specs.Plans.{work_of}
use Rattle.boc_typical.specs.declared.outliers.Outliers.{Outliers}
use Rattle.boc_typical.specs.Outliers.{AreOutliers}
use Rattle.boc_typical.proofs.LongRows.{one_outliers}
use Rattle.boc_plan_commands.specs.LongNotes.{AreLongNoted, IsLongNote, long_text}

long_same : (rows : List Row) (defs others : List ℕ) → defs ≡ others → (note other : List ℕ) → AreLongNoted rows defs note → AreLongNoted rows others other
    → note ≡ other
long_same rows defs others same note other a b =
    let found : a.found ≡ b.found =
    one_outliers rows others a.found b.found b.defs_are (subst (λ (list : List ℕ). AreOutliers rows list a.found) same a.are) b.are in
    a.note_is ∙ ap (λ (o : Option Outliers). long_text (work_of rows) o) found ∙ sym b.note_is

-- where the defs of the rows are the same
pub one_long_note : (typical : Bool) (input : List ℕ) (rows : List Row) (defs others : List ℕ) → defs ≡ others → (note other : List ℕ)
    → IsLongNote typical input rows defs note → IsLongNote typical input rows others other → note ≡ other
one_long_note true input rows defs others same note other a b = a ∙ sym b
one_long_note false input rows defs others same note other (inl a) (inl b) = long_same rows defs others same note other a.1 b.1
one_long_note false input rows defs others same note other (inl a) (inr b) = absurd (b.0 a.0)
one_long_note false input rows defs others same note other (inr a) (inl b) = absurd (a.0 b.0)
one_long_note false input rows defs others same note other (inr a) (inr b) = a.1 ∙ sym b.1
