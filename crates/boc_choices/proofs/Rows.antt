-- The lists of rows are there.
use Rattle.std.proofs.Common.{◌≡◌, ℕ, ◌<◌, List, length, refl}
use Rattle.std.specs.Prelude.{slice_index_or}
use Rattle.std.proofs.lemmas.Option.{slice_get_read}
use Rattle.boc_runs.specs.Serial.{Behaviour}
use Rattle.boc_front_rows.specs.declared.row.LiveRow.{LiveRow}
use Rattle.boc_front_rows.specs.Rows.{plain, plains, AreIn}
use Rattle.boc_front_rows.proofs.Mapped.{at_mapped}

pub list_there : (lists : List (List Behaviour)) (live : List LiveRow) (i : ℕ) (row : LiveRow) → AreIn lists (plains live) → i < length live
    → row ≡ slice_index_or live i row → row.wishes < length lists
list_there lists live i row there low is = there i (plain row) (at_mapped plain live i row (slice_get_read live (length live) i row refl low is))
