-- The definitions of runs tried on a program: its serial run, and the run by one worker.
use Rattle.std.proofs.Common.{◌≡◌, ℕ, List, [], ◌∷◌, refl, pos}
use Rattle.std.specs.Prelude.{map}
use Rattle.boc_program.specs.declared.body.EndStatus.TheVariants.{Done}
use Rattle.boc_runs.specs.declared.event.Event.{Event}
use Rattle.boc_runs.specs.declared.event.Event.TheVariants.{Spawn, Start, End}
use Rattle.boc_runs.specs.Lives.{Ended}
use Rattle.boc_runs.specs.Legal.{Entry, entries}
use Rattle.boc_runs.specs.Run.{Member, config_of}
use Rattle.boc_runs.specs.Serial.{serial_along}
use Rattle.boc_runs.specs.OwnOrder.{IsOwnOrder}
use Rattle.boc_program.proofs.examples.Transfer.{program}

-- main's three wishes are the next rows, and nothing is left to do after them
pub own : IsOwnOrder program (0 ∷ 0 ∷ 0 ∷ 0 ∷ []) []
own = refl

pub values : (serial_along program (0 ∷ 0 ∷ 0 ∷ 0 ∷ [])).values ≡ pos 12 ∷ pos 4 ∷ []
values = refl

-- a spawn of a row
abbrev pub spawned : ℕ → ℕ → ℕ → List ℕ → Event
spawned row parent offset cowns = Spawn row parent offset (record { items = cowns })

-- the end of a row, which wrote these cowns
abbrev pub over : ℕ → ℕ → List ℕ → Event
over row ticks written = End row ticks Done (record { items = written })

-- the run by one worker
abbrev pub log : List Event
log = spawned 0 0 0 [] ∷ Start 0 ∷ spawned 1 0 2 (0 ∷ []) ∷ spawned 2 0 3 (0 ∷ 1 ∷ []) ∷ spawned 3 0 4 (1 ∷ []) ∷ over 0 4 []
    ∷ Start 1 ∷ over 1 2 (0 ∷ []) ∷ Start 2 ∷ over 2 3 (0 ∷ 1 ∷ []) ∷ Start 3 ∷ over 3 2 (1 ∷ []) ∷ []

-- a row that wrote all its cowns
abbrev ended : ℕ → ℕ → List ℕ → ℕ → ℕ → Entry
ended parent offset cowns last ticks = record {
  parent = parent;
  offset = offset;
  cowns = cowns;
  life = Ended;
  last = last;
  ticks = ticks;
  status = Done;
  written = cowns;
}

pub rows_of_log : entries log ≡ ended 0 0 [] 4 4 ∷ ended 0 2 (0 ∷ []) 0 2 ∷ ended 0 3 (0 ∷ 1 ∷ []) 0 3 ∷ ended 0 4 (1 ∷ []) 0 2 ∷ []
rows_of_log = refl

pub values_of_log : (config_of program log).values ≡ pos 12 ∷ pos 4 ∷ []
values_of_log = refl

pub lives_of_log : map (λ (m : Member). m.life) (config_of program log).members ≡ Ended ∷ Ended ∷ Ended ∷ Ended ∷ []
lives_of_log = refl
