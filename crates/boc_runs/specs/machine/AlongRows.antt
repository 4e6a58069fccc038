-- What a log says of its rows: how many steps they take, and that they end as in the serial run along them.
use Rattle.std.specs.Prelude.{◌≡◌, ℕ, ◌+◌, ◌*◌, ◌-◌, List, ◌∷◌, ◌++◌, length, map, Some, slice_get}
use Rattle.std.specs.List.{sum_by}
use Rattle.boc_program.specs.declared.program.Program.{Program}
use Rattle.boc_program.specs.declared.body.EndStatus.{EndStatus}
use Rattle.boc_runs.specs.declared.event.Event.{Event}
use Rattle.boc_runs.specs.declared.event.Event.TheVariants.{End}
use Rattle.arrayvec.specs.ArrayVec.{ArrayVec}
use Rattle.boc_runs.specs.Legal.{entries}
use Rattle.boc_runs.specs.Serial.{SerialRow, Serial, serial_along}

-- the cowns of each row of a log
abbrev pub cowns_of_rows : List Event → List (List ℕ)
cowns_of_rows log = map (λ e. e.cowns) (entries log)

-- the parent of each row of a log
abbrev pub parents_of_rows : List Event → List ℕ
parents_of_rows log = map (λ e. e.parent) (entries log)

-- a behaviour over so many cowns takes so many steps, from its Open to its last release
abbrev pub steps_of : ℕ → ℕ
steps_of cowns = 4 + 4 * cowns

-- a run of rows with these cowns takes the steps of them all, but for main's Open and Own
abbrev pub steps_of_rows : List (List ℕ) → ℕ
steps_of_rows rows = sum_by (λ cowns. steps_of (length cowns)) rows - 2

-- the program run serially along the rows of a log
abbrev pub serial_of_log : Program → List Event → Serial
serial_of_log p log = serial_along p (parents_of_rows log)

-- a row that ended so in the serial run
pub record EndedSo (rows : List SerialRow) (row ticks : ℕ) (status : EndStatus) (written : List ℕ) : Type 0 where
  pub serial : SerialRow
  pub is : slice_get rows row ≡ Some serial
  pub ticks_are : ticks ≡ serial.means.ticks
  pub status_is : status ≡ serial.means.status
  pub written_are : written ≡ serial.means.written

-- each row that ends in a log ends as it does in the serial run along the log's rows
abbrev pub EndsSerially : Program → List Event → Type 0
EndsSerially p log =
    (before after : List Event) (row ticks : ℕ) (status : EndStatus) (written : ArrayVec ℕ)
    → log ≡ before ++ End row ticks status written ∷ after
    → EndedSo (serial_of_log p log).rows row ticks status written.items
