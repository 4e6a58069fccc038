-- The rows of a serial run that ended by a fault.
use Rattle.std.specs.Prelude.{◌≡◌, ◌≤◌, ℕ, suc, List, [], ◌∷◌, ◌++◌, map, length, ℤ}
use Rattle.boc_program.specs.declared.limits.TheConstants.{MOST_ROWS}
use Rattle.boc_program.specs.declared.body.EndStatus.{EndStatus}
use Rattle.boc_program.specs.declared.body.EndStatus.TheVariants.{Done}
use Rattle.boc_program.specs.declared.program.Program.{Program}
use Rattle.boc_runs.specs.Serial.{Behaviour, SerialRow, run_at_once, serial_along}
use Rattle.boc_runs.specs.OwnOrder.{IsOwnOrder}
use Rattle.boc_eval.specs.declared.serial.Faulted.{Faulted}
use Rattle.boc_eval.specs.Instances.{behaviour_in}
use Rattle.std.specs.Prelude.{Some}

-- a row that ended by a fault: its number, its behaviour, the ticks that it took until then, and how it ended
pub record FaultedRow : Type 0 where
  pub row : ℕ
  pub behaviour : Behaviour
  pub ticks : ℕ
  pub status : EndStatus

-- a row that ended so, unless it reached the end of its body
abbrev pub unless_done : EndStatus → FaultedRow → List FaultedRow
unless_done Done row = []
unless_done status row = row ∷ []

-- the row of a number, if it ended by a fault
abbrev pub fault_of : ℕ → SerialRow → List FaultedRow
fault_of n row =
    unless_done row.means.status (record { row = n; behaviour = row.behaviour; ticks = row.means.ticks; status = row.means.status })

-- those of some rows that ended by a fault, in the order of their numbers; the first row has the number n
abbrev pub faulted_from : ℕ → List SerialRow → List FaultedRow
faulted_from n [] = []
faulted_from n (row ∷ rows) = fault_of n row ++ faulted_from (suc n) rows

-- the row of a number whose behaviour runs at once on these values, if it ends by a fault
abbrev pub turn_fault : Program → ℕ → Behaviour → List ℤ → List FaultedRow
turn_fault p n b values = fault_of n (run_at_once p values 0 (Some b))

-- The serial run in the program's own order ends with these values, it never needs more rows than are allowed, and these of its rows end by a fault.
pub record EndsAs (p : Program) (values : List ℤ) (faulted : List FaultedRow) : Type 0 where
  pub done : List ℕ
  pub own : IsOwnOrder p done []
  pub few : length done ≤ MOST_ROWS
  pub values_are : (serial_along p done).values ≡ values
  pub faulted_are : faulted_from 0 (serial_along p done).rows ≡ faulted

-- the row that is told of
abbrev pub row_of : Faulted → FaultedRow
row_of f = record {
  row = f.row;
  behaviour = behaviour_in f.instance;
  ticks = f.ticks;
  status = f.status;
}

-- the rows that are told of
abbrev pub rows_of : List Faulted → List FaultedRow
rows_of faulted = map row_of faulted
