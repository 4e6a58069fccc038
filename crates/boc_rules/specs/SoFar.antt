-- What is kept of the rows of a run under way, and how an event changes it.
use Rattle.std.specs.Prelude.{◌≡◌, ℕ, ◌+◌, ◌-◌, ◌*◌, ◌<◌, ◌≤◌, List, [], ◌∷◌, ◌++◌, length, map, Option, Some, None, slice_get, slice_index_or, slice_range}
use Rattle.std.specs.Prelude.{vec_len, vec_capacity}
use Rattle.boc_program.specs.declared.body.EndStatus.{EndStatus}
use Rattle.boc_program.specs.declared.body.EndStatus.TheVariants as statuses
use Rattle.boc_runs.specs.declared.rows.Row.{Row}
use Rattle.boc_program.specs.declared.limits.TheConstants.{MOST_HELD}
use Rattle.boc_runs.specs.Lives as lives
use Rattle.boc_program.specs.Changed.{changed}
use Rattle.boc_runs.specs.Legal.{Entry}
use Rattle.boc_runs.specs.Records.{AreRowsOf}
use Rattle.arrayvec.specs.ArrayVec.{ArrayVec}
use Rattle.boc_rules.specs.declared.kept_row.Life.{Life}
use Rattle.boc_rules.specs.declared.kept_row.Life.TheVariants.{Pending, Running, Ended}
use Rattle.boc_rules.specs.declared.kept_row.KeptRow.{KeptRow}
use Rattle.boc_rules.specs.declared.so_far.RunSoFar.{RunSoFar}
use Rattle.boc_rules.specs.Course.{AreLegal}
use Rattle.boc_rules.specs.Before.{IsLatest, AreBefore, noted}

-- what has become of a row
abbrev pub meant : Life → lives.Life
meant Pending = lives.Pending
meant Running = lives.Running
meant Ended = lives.Ended

-- the kept_row of a row
pub record IsKeptRowOf (entry : Entry) (kept_row : KeptRow) : Type 0 where
  pub life : meant kept_row.life ≡ entry.life
  pub last : kept_row.last ≡ entry.last

-- the kept_rows of a run's rows, one for each
pub record AreKeptRowsOf (run : List Entry) (kept_rows : List KeptRow) : Type 0 where
  pub all : length kept_rows ≡ length run
  pub each : (r : ℕ) (entry : Entry) (kept_row : KeptRow) → slice_get run r ≡ Some entry → slice_get kept_rows r ≡ Some kept_row → IsKeptRowOf entry kept_row

-- what was found for each row: the rows before it on its cowns
pub record AreFound (run : List Entry) (kept_rows : List KeptRow) (found : List (Option ℕ)) : Type 0 where
  pub few : length found ≤ MOST_HELD * length run
  pub ordered : (r : ℕ) (kept_row : KeptRow) → slice_get kept_rows r ≡ Some kept_row → kept_row.from ≤ kept_row.to
  pub within : (r : ℕ) (kept_row : KeptRow) → slice_get kept_rows r ≡ Some kept_row → kept_row.to ≤ length found
  pub before : (r : ℕ) (kept_row : KeptRow) → slice_get kept_rows r ≡ Some kept_row → AreBefore run r (slice_range found kept_row.from kept_row.to)

-- the latest row of a run on each of so many cowns
pub record AreLatest (run : List Entry) (cowns : ℕ) (latest : List (Option ℕ)) : Type 0 where
  pub all : length latest ≡ cowns
  pub each : (c : ℕ) → c < cowns → IsLatest run c (length run) (slice_index_or latest c None)

-- 1 for a row that is over
abbrev pub over_one : lives.Life → ℕ
over_one lives.Ended = 1
over_one _ = 0

-- how many rows are over
abbrev pub over : List Entry → ℕ
over [] = 0
over (entry ∷ entries) = over_one entry.life + over entries

-- a row of a run under way, of what is kept of it
abbrev pub entry_of : Row → KeptRow → Entry
entry_of row kept_row = record {
  parent = row.parent;
  offset = row.offset;
  cowns = row.cowns.items;
  life = meant kept_row.life;
  last = kept_row.last;
  ticks = row.ticks;
  status = row.status;
  written = row.written.items;
}

-- rows with their kept_rows
abbrev pub entries_of : List Row → List KeptRow → List Entry
entries_of [] kept_rows = []
entries_of (row ∷ rows) [] = []
entries_of (row ∷ rows) (kept_row ∷ kept_rows) = entry_of row kept_row ∷ entries_of rows kept_rows

-- the rows of a run so far, with what has become of each
abbrev pub so_far : RunSoFar → List Entry
so_far run = entries_of run.rows.items run.kept_rows.items

-- what is kept is that of the rows of a legal log
pub record AreParts (cowns : ℕ) (run : List Entry) (rows : List Row) (kept_rows : List KeptRow) (found latest : List (Option ℕ)) (ended : ℕ) : Type 0 where
  pub legal : AreLegal cowns run
  pub rows_are : AreRowsOf run rows
  pub kept_rows_are : AreKeptRowsOf run kept_rows
  pub found_are : AreFound run kept_rows found
  pub latest_are : AreLatest run cowns latest
  pub ended_is : ended ≡ over run

-- what is kept of a run is that of the rows of a legal log
abbrev pub IsRunSoFar : RunSoFar → Type 0
IsRunSoFar run = AreParts run.cowns (so_far run) run.rows.items run.kept_rows.items run.found.items run.latest.items run.ended

-- there is room for so many more rows
pub record HasRooms (run : RunSoFar) : Type 0 where
  pub rows : vec_len run.rows + run.rooms ≤ vec_capacity run.rows
  pub kept_rows : vec_len run.kept_rows + run.rooms ≤ vec_capacity run.kept_rows
  pub found : vec_len run.found + MOST_HELD * run.rooms ≤ vec_capacity run.found

-- the same run, whose lists may have more room
pub record IsSameRun (old new : RunSoFar) : Type 0 where
  pub cowns : new.cowns ≡ old.cowns
  pub rows : new.rows.items ≡ old.rows.items
  pub kept_rows : new.kept_rows.items ≡ old.kept_rows.items
  pub found : new.found.items ≡ old.found.items
  pub latest : new.latest.items ≡ old.latest.items
  pub ended : new.ended ≡ old.ended

-- a row that was just spawned
abbrev pub new_row : ℕ → ℕ → ArrayVec ℕ → Row
new_row parent offset cowns = record {
  parent = parent;
  offset = offset;
  cowns = cowns;
  ticks = 0;
  status = statuses.Done;
  written = record { items = [] };
}

-- a row was put behind the others
pub record IsSpawned (old new : RunSoFar) (row parent offset : ℕ) (cowns : ArrayVec ℕ) : Type 0 where
  pub cowns_stay : new.cowns ≡ old.cowns
  pub rows : new.rows.items ≡ old.rows.items ++ new_row parent offset cowns ∷ []
  pub kept_rows : new.kept_rows.items ≡
      changed old.kept_rows.items parent (λ s. record s { last = offset }) (slice_get old.kept_rows.items parent)
      ++ record { life = Pending; last = 0; from = length old.found.items; to = length old.found.items + length cowns.items } ∷ []
  pub found : new.found.items ≡ old.found.items ++ map (λ c. slice_index_or old.latest.items c None) cowns.items
  pub latest : new.latest.items ≡ noted old.latest.items cowns.items row
  pub ended : new.ended ≡ old.ended
  pub rooms : new.rooms ≡ old.rooms - 1

-- a row runs
pub record IsStarted (old new : RunSoFar) (row : ℕ) : Type 0 where
  pub cowns_stay : new.cowns ≡ old.cowns
  pub rows_stay : new.rows.items ≡ old.rows.items
  pub kept_rows : new.kept_rows.items ≡ changed old.kept_rows.items row (λ s. record s { life = Running }) (slice_get old.kept_rows.items row)
  pub found_stays : new.found.items ≡ old.found.items
  pub latest_stay : new.latest.items ≡ old.latest.items
  pub ended : new.ended ≡ old.ended
  pub rooms_stay : new.rooms ≡ old.rooms

-- a row is over
pub record IsEnded (old new : RunSoFar) (row ticks : ℕ) (status : EndStatus) (written : ArrayVec ℕ) : Type 0 where
  pub cowns_stay : new.cowns ≡ old.cowns
  pub rows : new.rows.items ≡ changed old.rows.items row (λ x. record x { ticks = ticks; status = status; written = written }) (slice_get old.rows.items row)
  pub kept_rows : new.kept_rows.items ≡ changed old.kept_rows.items row (λ s. record s { life = Ended }) (slice_get old.kept_rows.items row)
  pub found_stays : new.found.items ≡ old.found.items
  pub latest_stay : new.latest.items ≡ old.latest.items
  pub ended : new.ended ≡ old.ended + 1
  pub rooms_stay : new.rooms ≡ old.rooms
