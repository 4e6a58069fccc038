-- The note on the rows of an input, as they are looked at or not.
use Rattle.std.proofs.Common.{◌≡◌, ℕ, Bool, true, false, true≢false, inl, inr, List, [], sym}
use Rattle.boc_runs.specs.declared.rows.Row.{Row}
use Rattle.boc_plan_commands.specs.LongNotes.{AreLongNoted, AreLookedAt, IsLongNote}

-- where they are, it is what is noted of them
pub looked_at : (typical : Bool) (input : List ℕ) (rows : List Row) (defs note : List ℕ) → AreLookedAt typical input true → AreLongNoted rows defs note
    → IsLongNote typical input rows defs note
looked_at true input rows defs note looked noted = absurd (true≢false looked.0)
looked_at false input rows defs note looked noted = inl (looked.1, noted)

-- and else no text
pub not_looked_at : (typical : Bool) (input : List ℕ) (rows : List Row) (defs note : List ℕ) → AreLookedAt typical input false → note ≡ []
    → IsLongNote typical input rows defs note
not_looked_at true input rows defs note looked none = none
not_looked_at false input rows defs note (inl typical) none = absurd (true≢false (sym typical))
not_looked_at false input rows defs note (inr other) none = inr (other, none)
