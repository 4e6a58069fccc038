-- The order in which a program's behaviours have their turns where each parent's wishes become rows as it has its own, where
-- the run ends, and when it needs too many rows.
use Rattle.std.specs.Prelude.{◌≡◌, ◌+◌, ◌<◌, ◌≤◌, ℕ, suc, List, [], ◌∷◌, ◌++◌, length, replicate, ℤ}
use Rattle.boc_program.specs.declared.limits.TheConstants.{MOST_ROWS}
use Rattle.boc_program.specs.declared.program.Program.{Program}
use Rattle.boc_runs.specs.Serial.{SerialRow, serial_along}

-- the number of each row, once for each of its wishes, row after row; the first row has the number n
abbrev pub spawners : ℕ → List SerialRow → List ℕ
spawners n [] = []
spawners n (row ∷ rows) = replicate (length row.means.wishes) n ++ spawners (suc n) rows

-- a program's own order: main comes first, and each row's wishes are appended as it has its turn. The rows with these parents
-- had their turns, and those of these parents are due
abbrev pub IsOwnOrder : Program → List ℕ → List ℕ → Type 0
IsOwnOrder p done due = 0 ∷ spawners 0 (serial_along p done).rows ≡ done ++ due

-- the serial run in the program's own order ends with these values, and never needs more rows than are allowed
pub record EndsWith (p : Program) (values : List ℤ) : Type 0 where
  pub done : List ℕ
  pub own : IsOwnOrder p done []
  pub few : length done ≤ MOST_ROWS
  pub values_are : (serial_along p done).values ≡ values

-- at some turn of it there are more rows than are allowed, with those that are due
pub record HasTooMany (p : Program) : Type 0 where
  pub done : List ℕ
  pub due : List ℕ
  pub own : IsOwnOrder p done due
  pub many : MOST_ROWS < length done + length due
